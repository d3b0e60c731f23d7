-- Lists of letters as they are read.
use Rattle.std.specs.Prelude.{◌≡◌, ℕ, ◌<◌, ◌≤◌, List, [], ◌∷◌, ◌++◌, length, map, Option, Some, None}
use Rattle.ic_name.specs.Events.{Event, Pair, pair}
use Rattle.ic_path.specs.Orders.{Alike, IsIn}
use Rattle.ic_trace.specs.Pasts.{PastView}
use Rattle.ic_theory.specs.Starts.{Start}
use Rattle.ic_theory.specs.Active.{IsActive}
use Rattle.ic_theory.specs.Future.{Includes}
use Rattle.ic_theory.specs.Letters as theory
use Rattle.ic_trace.specs.declared.known.Known.{Known}
use Rattle.ic_trace.specs.declared.known.EventTable.{EventTable}
use Rattle.ic_trace.specs.declared.lists.Letter.{Letter}
use Rattle.ic_trace.specs.declared.reading.Reading.{Reading}
use Rattle.ic_trace.specs.declared.reading.Reading.TheVariants.{Legal, Refused}
use Rattle.ic_trace.specs.declared.reading.Step.{Step}
use Rattle.ic_trace.specs.declared.reading.Step.TheVariants as step
use Rattle.ic_trace.specs.declared.reading.Trace.{Trace}
use Rattle.ic_trace.specs.Known.{AreKnown, AreNumbered, events_in, event_at}
use Rattle.ic_trace.specs.Letters.{named, IsFirstRefused}

-- the number of a letter's event
abbrev pub number_of : Step → ℕ
number_of (step.Fire i) = i
number_of (step.Undo i) = i

-- one letter undoes what the other one does
abbrev pub AreInverse : Step → Step → Type 0
AreInverse (step.Fire i) (step.Undo j) = i ≡ j
AreInverse (step.Undo i) (step.Fire j) = i ≡ j
AreInverse (step.Fire i) (step.Fire j) = ⊥
AreInverse (step.Undo i) (step.Undo j) = ⊥

-- the letter
abbrev pub letter_in : List Known → Step → theory.Letter
letter_in ks (step.Fire i) = theory.Fire (event_at ks i)
letter_in ks (step.Undo i) = theory.Undo (event_at ks i)

-- the letters of a list
abbrev pub letters_in : List Known → List Step → List theory.Letter
letters_in ks xs = map (letter_in ks) xs

-- each letter is one of a known event
abbrev pub AreInside : List Known → List Step → Type 0
AreInside ks xs = (x : Step) → IsIn x xs → number_of x < length ks

-- the events that stand are known
pub record IsFollowed (p : PastView) (t : EventTable) : Type 0 where
  pub known : AreKnown p.start t.known.items
  pub numbered : AreNumbered t
  pub part : Includes (events_in t.known.items) p.events

-- no letter of this name is accepted
abbrev pub IsRefused : PastView → Letter → Type 0
IsRefused p y = (l : theory.Letter) → named l ≡ y → (es : List Event) → theory.Runs p.start p.events (l ∷ []) es → ⊥

-- the letter is accepted, and its event is known then
pub record IsAccepted (old : PastView) (known : List Known) (y : Letter) (x : Step) (new : PastView) (t : EventTable) : Type 0 where
  pub followed : IsFollowed new t
  pub more : List Known
  pub grown : t.known.items ≡ known ++ more
  pub one : length more ≤ 1
  pub inside : number_of x < length t.known.items
  pub name : named (letter_in t.known.items x) ≡ y
  pub start : new.start ≡ old.start
  pub after : List Event
  pub runs : theory.Runs old.start old.events (letter_in t.known.items x ∷ []) after
  pub alike : Alike after new.events

-- what reading a letter does
abbrev pub ReadsAs : PastView → List Known → Letter → Option Step → PastView → EventTable → Type 0
ReadsAs old known y None new t = IsRefused old y
ReadsAs old known y (Some x) new t = IsAccepted old known y x new t

-- the one event of a name that may be active
abbrev pub IsOnlyActive : PastView → Pair → Option Event → Type 0
IsOnlyActive p n None = (e : Event) → pair e ≡ n → ¬ (IsActive p.start p.events e)
IsOnlyActive p n (Some e) = (pair e ≡ n) × ((f : Event) → pair f ≡ n → IsActive p.start p.events f → f ≡ e)

-- the letters that have been read, what stands after them, and what is known of their events
pub record IsReadUpTo (s : Start) (xs : List Letter) (p : PastView) (t : EventTable) (steps : List Step) : Type 0 where
  pub start : p.start ≡ s
  pub followed : IsFollowed p t
  pub few : length t.known.items ≤ length xs
  pub inside : AreInside t.known.items steps
  pub standing : List Event
  pub runs : theory.Runs s [] (letters_in t.known.items steps) standing
  pub names : map named (letters_in t.known.items steps) ≡ xs
  pub alike : Alike standing p.events

-- a legal list with its known events
pub record IsTraceOf (s : Start) (xs : List Letter) (t : Trace) : Type 0 where
  pub known : AreKnown s t.known.items
  pub inside : AreInside t.known.items t.steps.items
  pub standing : List Event
  pub runs : theory.Runs s [] (letters_in t.known.items t.steps.items) standing
  pub names : map named (letters_in t.known.items t.steps.items) ≡ xs
  pub part : Includes (events_in t.known.items) standing

-- what reading a list gives
abbrev pub IsReadingOf : Start → List Letter → Reading → Type 0
IsReadingOf s xs (Legal t) = IsTraceOf s xs t
IsReadingOf s xs (Refused i) = IsFirstRefused s xs i
