-- The answer to `causes`: events in canonical order, each with its rank and its direct causes.
use Rattle.std.specs.Prelude.{◌≡◌, ℕ, List, ◌++◌, All, length, map, codes}
use Rattle.std.specs.Fmt.{decimal}
use Rattle.std.specs.List.{flat_map}
use Rattle.ic_name.specs.Events.{Event, pair}
use Rattle.ic_name.specs.NameTexts.{pair_text}
use Rattle.ic_path.specs.Orders.{Alike}
use Rattle.ic_theory.specs.Starts.{Start}
use Rattle.ic_cause.specs.Journals.{AreCanonical}
use Rattle.ic_answer.specs.Standing.{HasRank, AreCauses}

-- an event with its rank and its direct causes
pub record Caused : Type 0 where
  pub event : Event
  pub rank : ℕ
  pub causes : List Event

-- the rank and the causes are those of the event in the set
pub record IsCaused (s : Start) (es : List Event) (x : Caused) : Type 0 where
  pub rank : HasRank s es x.event x.rank
  pub causes : AreCauses s es x.event x.causes

-- all events of the set, in canonical order, each with its rank and its direct causes
pub record AreCaused (s : Start) (es : List Event) (xs : List Caused) : Type 0 where
  pub alike : Alike es (map (λ x. x.event) xs)
  pub canonical : AreCanonical s es (map (λ x. x.event) xs)
  pub each : All (IsCaused s es) xs

-- the names of a cause behind a blank
abbrev pub cause_word : Event → List ℕ
cause_word e = codes " " ++ pair_text (pair e)

-- the line of an event: its names, its rank, how many direct causes it has, and the names of each
abbrev pub caused_line : Caused → List ℕ
caused_line x = pair_text (pair x.event) ++ codes " rank " ++ decimal x.rank ++ codes " causes " ++ decimal (length x.causes) ++ flat_map cause_word x.causes ++ codes "\n"

-- how many events there are, and a line for each
abbrev pub causes_text : List Caused → List ℕ
causes_text xs = codes "causes " ++ decimal (length xs) ++ codes "\n" ++ flat_map caused_line xs

-- the line of the event in the set is put at the end
abbrev pub AddsCaused : Start → List Event → Event → List ℕ → List ℕ → Type 0
AddsCaused s es e old new = (x : Caused) × (x.event ≡ e) × IsCaused s es x × (new ≡ old ++ caused_line x)
