-- Lists of letters by the names of their events.
use Rattle.std.specs.Prelude.{◌≡◌, ℕ, ◌+◌, ◌<◌, List, [], length, map, take}
use Rattle.ic_name.specs.Events.{Event, pair}
use Rattle.ic_theory.specs.Starts.{Start}
use Rattle.ic_theory.specs.Letters as theory
use Rattle.ic_trace.specs.declared.lists.Letter.{Letter}
use Rattle.ic_trace.specs.declared.lists.Letter.TheVariants.{Fire, Undo}

-- the letter by the name of its event
abbrev pub named : theory.Letter → Letter
named (theory.Fire e) = Fire (pair e)
named (theory.Undo e) = Undo (pair e)

-- the list is accepted over the start, letter by letter, and these events stand after it
abbrev pub Leaves : Start → List Letter → List Event → Type 0
Leaves s xs es = (ls : List theory.Letter) × theory.Runs s [] ls es × (map named ls ≡ xs)

-- a list that is accepted over the start
abbrev pub IsLegal : Start → List Letter → Type 0
IsLegal s xs = (es : List Event) × Leaves s xs es

-- the first letter that isn't accepted
pub record IsFirstRefused (s : Start) (xs : List Letter) (i : ℕ) : Type 0 where
  pub inside : i < length xs
  pub before : IsLegal s (take i xs)
  pub refused : ¬ (IsLegal s (take (i + 1) xs))
