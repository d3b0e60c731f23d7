-- A list of letters with a place in it, and what a move makes of it.
use Rattle.std.specs.Prelude.{◌≡◌, ℕ, ◌+◌, ◌<◌, Bool, true, false, List, ◌∷◌, ◌++◌, length, reverse, Option, Some, None}
use Rattle.ic_theory.specs.Starts.{Start}
use Rattle.ic_theory.specs.Letters as theory
use Rattle.ic_trace.specs.declared.cursor.Cursor.{Cursor}
use Rattle.ic_trace.specs.declared.moving.Move.{Move}
use Rattle.ic_trace.specs.declared.reading.Step.{Step}
use Rattle.ic_trace.specs.Moves.{Makes}

-- the whole list
abbrev pub list_in : Cursor → List Step
list_in c = c.before.items ++ reverse c.behind.items

-- the list has these two letters at the place, and the cursor what is before and behind them
abbrev pub HasTwo : List Step → ℕ → Option (Step × Step) → Cursor → Type 0
HasTwo xs i None c = length xs < i + 2
HasTwo xs i (Some p) c = (length c.before.items ≡ i) × (xs ≡ c.before.items ++ p.0 ∷ p.1 ∷ reverse c.behind.items)

-- the move makes the second list of the first, or isn't lawful
abbrev pub Does : Start → Move → List theory.Letter → Bool → List theory.Letter → Type 0
Does s m ls true ks = Makes s m ls ks
Does s m ls false ks = (js : List theory.Letter) → ¬ (Makes s m ls js)
