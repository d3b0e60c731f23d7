-- Requests taken with the lines behind them.
use Rattle.std.proofs.Common.{◌≡◌, ℕ, Bool, List, ◌∷◌, sym, subst, inl, inr, Vec, Global}
use Rattle.std.specs.Prelude.{Option, Some, None, IfSome, IsSomeAnd}
use Rattle.ic_name.specs.Events.{Pair}
use Rattle.ic_command.specs.Asked.{IsAsked}
use Rattle.ic_command.specs.declared.asked.Asked.TheVariants as asked
use Rattle.ic_command.specs.declared.command.Command.TheVariants.{Malformed}
use Rattle.ic_command.specs.declared.request.Request.{Request}
use Rattle.ic_command.specs.declared.request.Request.TheVariants.{Bench, Absorb}
use Rattle.ic_session.specs.InputLines.{TextLine, lines}
use Rattle.ic_session.specs.NextRequest.{Takes, alone, listed, unlisted, wanting}
use Rattle.ic_session.specs.TakenLines.{TakesListed}

-- a line, whether it had a line feed or not, is taken with some of those behind it
abbrev pub TakesAt : List ℕ → Request → Option (List ℕ) → Option (List ℕ) → Type 0
TakesAt line r old new = IfSome old (λ bytes. IsSomeAnd new (λ rest. (ended : Bool) → Takes (record { bytes = line; ended = ended } ∷ lines bytes) r (lines rest)))

-- a line that asks for what it says alone
pub alone_at : (old : Option (List ℕ)) (line : List ℕ) (r : Request) → IsAsked line (asked.Alone r) → TakesAt line r old old
alone_at None line r a = tt
alone_at (Some xs) line r a = λ ended. alone a

-- a line that asks to absorb, with the lines behind it, each of which lists an event
pub absorb_at : (old new : Option (List ℕ)) (line : List ℕ) (count : ℕ) (events : Vec Pair Global) (o : Option (Vec Pair Global)) → IsAsked line (asked.Absorb count) → o ≡ Some events
    → IfSome old (λ xs. IsSomeAnd new (TakesListed count o xs)) → TakesAt line (Absorb events) old new
absorb_at None new line count events o a e h = tt
absorb_at (Some xs) None line count events o a e h = absurd h
absorb_at (Some xs) (Some ys) line count events o a e h =
    let behind = subst (λ f. TakesListed count f xs ys) e h in
    let asks = subst (λ n. IsAsked line (asked.Absorb n)) (sym behind.2) a in
    λ ended. subst (λ ls. Takes (record { bytes = line; ended = ended } ∷ ls) (Absorb events) (lines ys)) (sym behind.1) (listed asks behind.3)

-- behind it a line lists no event, or is wanting
refused_behind : (line : TextLine) (xs ys : List ℕ) (count : ℕ) → IsAsked line.bytes (asked.Absorb count) → TakesListed count None xs ys → Takes (line ∷ lines xs) (Bench Malformed) (lines ys)
refused_behind line xs ys count a (inl h) =
    let asks = subst (λ n. IsAsked line.bytes (asked.Absorb n)) (sym h.2) a in
    subst (λ ls. Takes (line ∷ ls) (Bench Malformed) (lines ys)) (sym h.1) (unlisted asks h.3)
refused_behind line xs ys count a (inr h) = subst (λ ls. Takes (line ∷ lines xs) (Bench Malformed) ls) (sym h.1) (wanting a h.0)

pub refused_at : (old new : Option (List ℕ)) (line : List ℕ) (count : ℕ) (o : Option (Vec Pair Global)) → IsAsked line (asked.Absorb count) → o ≡ None
    → IfSome old (λ xs. IsSomeAnd new (TakesListed count o xs)) → TakesAt line (Bench Malformed) old new
refused_at None new line count o a e h = tt
refused_at (Some xs) None line count o a e h = absurd h
refused_at (Some xs) (Some ys) line count o a e h = λ ended. refused_behind (record { bytes = line; ended = ended }) xs ys count a (subst (λ f. TakesListed count f xs ys) e h)
