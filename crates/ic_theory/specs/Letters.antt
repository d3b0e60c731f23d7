-- Lists of firings and undos, and their causal equivalence (Danos and Krivine 2004).
use Rattle.std.specs.Prelude.{◌≡◌, List, [], ◌∷◌, ◌++◌}
use Rattle.ic_name.specs.Events.{Event}
use Rattle.ic_path.specs.Orders.{Pick, IsIn}
use Rattle.ic_theory.specs.Starts.{Start}
use Rattle.ic_theory.specs.Active.{IsActive}
use Rattle.ic_theory.specs.Causes.{IsCause}
use Rattle.ic_theory.specs.Sound.{IsSound}

-- a letter fires an event or undoes it
pub data Letter : Type 0 where
  Fire : Event → Letter
  Undo : Event → Letter

abbrev pub event_of : Letter → Event
event_of (Fire e) = e
event_of (Undo e) = e

-- no event of the set has this one among its direct causes
abbrev pub HasNoDependent : Start → List Event → Event → Type 0
HasNoDependent s es e = (f : Event) → IsIn f es → IsCause s es f e → ⊥

-- the letters are accepted in turn from one standing set on, and lead to another one
pub data Runs (s : Start) : List Event → List Letter → List Event → Type 0 where
  stops : {es : List Event} → Runs s es [] es
  fires : {e : Event} {es fs : List Event} {ls : List Letter} → IsActive s es e → Runs s (e ∷ es) ls fs → Runs s es (Fire e ∷ ls) fs
  undoes : {e : Event} {es rest fs : List Event} {ls : List Letter} → Pick e es rest → HasNoDependent s es e → Runs s rest ls fs → Runs s es (Undo e ∷ ls) fs

-- a legal list of letters
abbrev pub IsLegal : Start → List Letter → Type 0
IsLegal s ls = (fs : List Event) × Runs s [] ls fs

-- two events of which neither is a direct cause of the other
pub record AreConcurrent (s : Start) (e f : Event) : Type 0 where
  pub different : e ≡ f → ⊥
  pub no_cause : (all : List Event) → IsSound s all → IsIn e all → IsIn f all → (IsCause s all e f → ⊥) × (IsCause s all f e → ⊥)

-- one move: neighbours of concurrent events change places, or a letter and its inverse are cancelled
pub data Move (s : Start) : List Letter → List Letter → Type 0 where
  swaps : (before behind : List Letter) (x y : Letter) → AreConcurrent s (event_of x) (event_of y) → Move s (before ++ x ∷ y ∷ behind) (before ++ y ∷ x ∷ behind)
  fire_undo : (before behind : List Letter) (e : Event) → Move s (before ++ Fire e ∷ Undo e ∷ behind) (before ++ behind)
  undo_fire : (before behind : List Letter) (e : Event) → Move s (before ++ Undo e ∷ Fire e ∷ behind) (before ++ behind)

-- moves and their inverses lead from one to the other through legal lists
pub data AreEquivalent (s : Start) : List Letter → List Letter → Type 0 where
  same : {ls : List Letter} → AreEquivalent s ls ls
  forth : {ls ms ns : List Letter} → Move s ls ms → IsLegal s ls → IsLegal s ms → AreEquivalent s ms ns → AreEquivalent s ls ns
  back : {ls ms ns : List Letter} → Move s ms ls → IsLegal s ls → IsLegal s ms → AreEquivalent s ms ns → AreEquivalent s ls ns
