-- What the next lines of an input ask for.
use Rattle.std.specs.Prelude.{◌≡◌, ◌<◌, ℕ, List, [], ◌∷◌, ◌++◌, length, Option, None, Some, IsSomeAnd}
use Rattle.std.specs.Global.{Vec}
use Rattle.ic_name.specs.Events.{Pair}
use Rattle.ic_path.specs.Orders.{IsIn}
use Rattle.ic_command.specs.declared.asked.Asked.TheVariants as asked
use Rattle.ic_command.specs.declared.command.Command.TheVariants.{Malformed}
use Rattle.ic_command.specs.declared.request.Request.{Request}
use Rattle.ic_command.specs.declared.request.Request.TheVariants.{Bench, Absorb}
use Rattle.ic_command.specs.Asked.{IsAsked}
use Rattle.ic_command.specs.Listed.{IsListed}
use Rattle.ic_session.specs.InputLines.{TextLine, lines}

-- the lines list these events, each line one
pub data AreListed : List TextLine → List Pair → Type 0 where
  none : AreListed [] []
  more : {line : TextLine} {ls : List TextLine} {p : Pair} {ps : List Pair} → IsListed line.bytes p → AreListed ls ps → AreListed (line ∷ ls) (p ∷ ps)

-- one of the lines lists no event
abbrev pub OneListsNone : List TextLine → Type 0
OneListsNone ls = (line : TextLine) × IsIn line ls × ((p : Pair) → ¬ (IsListed line.bytes p))

-- what the first of these lines asks for, with the lines that it takes behind it, and the lines that are left; a line
-- that asks to absorb takes as many as it says, or all, and is malformed where one of them lists no event or is wanting
pub data Takes : List TextLine → Request → List TextLine → Type 0 where
  alone : {line : TextLine} {ls : List TextLine} {r : Request} → IsAsked line.bytes (asked.Alone r) → Takes (line ∷ ls) r ls
  listed : {line : TextLine} {first ls : List TextLine} {names : Vec Pair} → IsAsked line.bytes (asked.Absorb (length first)) → AreListed first names.items → Takes (line ∷ first ++ ls) (Absorb names) ls
  unlisted : {line : TextLine} {first ls : List TextLine} → IsAsked line.bytes (asked.Absorb (length first)) → OneListsNone first → Takes (line ∷ first ++ ls) (Bench Malformed) ls
  wanting : {line : TextLine} {ls : List TextLine} {n : ℕ} → IsAsked line.bytes (asked.Absorb n) → length ls < n → Takes (line ∷ ls) (Bench Malformed) []

-- the next request was taken, and the lines behind it are left; or nothing was left
abbrev pub TakesRequest : Option Request → List ℕ → Option (List ℕ) → Type 0
TakesRequest (Some r) old new = IsSomeAnd new (λ left. Takes (lines old) r (lines left))
TakesRequest None old new = old ≡ []
