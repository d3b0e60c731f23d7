-- The journal: events in canonical order, each with its rank.
use Rattle.std.specs.Prelude.{◌≡◌, ℕ, List, ◌++◌, length, map, codes}
use Rattle.std.specs.Fmt.{decimal}
use Rattle.std.specs.List.{flat_map}
use Rattle.std.specs.List.Sorted.{IsStrictlySortedBy}
use Rattle.ic_name.specs.Events.{Event, pair}
use Rattle.ic_name.specs.NameTexts.{pair_text}
use Rattle.ic_path.specs.Orders.{Alike, IsIn}
use Rattle.ic_theory.specs.Starts.{Start}
use Rattle.ic_theory.specs.Causes.{IsRank, canonical_cmp}

-- an event and its rank
pub record Ranked : Type 0 where
  pub event : Event
  pub rank : ℕ

-- in canonical order, by the ranks of a set
abbrev pub AreCanonical : Start → List Event → List Event → Type 0
AreCanonical s es fs = (rank : Event → ℕ) → IsRank s es rank → IsStrictlySortedBy (canonical_cmp rank) fs

-- the journal of a set: all events of it with their ranks, in canonical order
pub record IsJournal (s : Start) (es : List Event) (xs : List Ranked) : Type 0 where
  pub alike : Alike es (map (λ x. x.event) xs)
  pub canonical : AreCanonical s es (map (λ x. x.event) xs)
  pub ranks : (rank : Event → ℕ) → IsRank s es rank → (x : Ranked) → IsIn x xs → x.rank ≡ rank x.event

-- the line of an event and its rank
abbrev pub journal_line : Ranked → List ℕ
journal_line x = pair_text (pair x.event) ++ codes " rank " ++ decimal x.rank ++ codes "\n"

-- the first line: how many events there are
abbrev pub journal_head : ℕ → List ℕ
journal_head count = codes "journal " ++ decimal count ++ codes "\n"

-- how many events there are, and a line for each
abbrev pub journal_text : List Ranked → List ℕ
journal_text xs = journal_head (length xs) ++ flat_map journal_line xs
