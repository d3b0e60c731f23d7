-- What the calls on lists of letters answer.
use Rattle.std.specs.Prelude.{◌≡◌, ◌≤◌, ◌<◌, List, length, map, Result, Ok, Err}
use Rattle.ic_name.specs.Events.{Event, pair}
use Rattle.ic_path.specs.Orders.{Alike}
use Rattle.ic_theory.specs.Starts.{Start}
use Rattle.ic_cause.specs.Journals.{AreCanonical}
use Rattle.ic_trace.specs.declared.lists.Letter.{Letter}
use Rattle.ic_trace.specs.declared.lists.Letter.TheVariants.{Fire}
use Rattle.ic_trace.specs.declared.lists.TheConstants.{MAX_LETTERS}
use Rattle.ic_trace.specs.declared.moving.Move.{Move}
use Rattle.ic_trace.specs.declared.faults.TraceFault.{TraceFault}
use Rattle.ic_trace.specs.declared.faults.TraceFault.TheVariants.{TooMany, NotLegal, Memory}
use Rattle.ic_trace.specs.Letters.{Leaves, IsFirstRefused}
use Rattle.ic_trace.specs.Moves.{Lead}

-- the firings of what stands after a list, in canonical order
pub record AreCanonicalFirings (s : Start) (xs ys : List Letter) : Type 0 where
  pub standing : List Event
  pub left : Leaves s xs standing
  pub events : List Event
  pub alike : Alike standing events
  pub canonical : AreCanonical s standing events
  pub letters : ys ≡ map (λ e. Fire (pair e)) events

-- what looking for moves to the canonical firings answers
abbrev pub Canonises : Start → List Letter → Result (List Move) TraceFault → Type 0
Canonises s xs (Ok ms) = (length xs ≤ MAX_LETTERS) × (ys : List Letter) × AreCanonicalFirings s xs ys × Lead s xs ms ys
Canonises s xs (Err TooMany) = MAX_LETTERS < length xs
Canonises s xs (Err (NotLegal i)) = (length xs ≤ MAX_LETTERS) × IsFirstRefused s xs i
Canonises s xs (Err Memory) = length xs ≤ MAX_LETTERS
