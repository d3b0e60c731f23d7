-- Demands taken from the lines that are left.
use Rattle.std.proofs.Common.{◌≡◌, ℕ, ◌+◌, ◌<◌, Bool, true, false, List, [], ◌∷◌, length, append-nil, refl, sym, ap, ◌∙◌, subst}
use Rattle.std.proofs.KnownBytes.{Appends-nil}
use Rattle.std.specs.Prelude.{Option, Some, None, IfSome, IsSomeAnd, if◌then◌else◌}
use Rattle.std.specs.Io.KnownBytes.{Appends}
use Rattle.ic_command.specs.Faults.{AppendsFront}
use Rattle.ic_command.specs.declared.command.TheConstants.{MAX_COMMAND}
use Rattle.ic_command.specs.declared.lines.piece.Piece.{Piece}
use Rattle.ic_command.specs.declared.lines.piece.Piece.TheVariants.{End, Line, TooLong}
use Rattle.ic_command.specs.declared.command.Command.TheVariants.{Malformed}
use Rattle.ic_command.specs.declared.question.Question.{Question}
use Rattle.ic_command.specs.declared.request.Request.{Request}
use Rattle.ic_command.specs.declared.request.Request.TheVariants.{Bench}
use Rattle.ic_session.specs.InputLines.{lines}
use Rattle.ic_session.specs.NextRequest.{alone}
use Rattle.ic_session.specs.Modes.{IsDone, IsQuestionAt, Quits, Renews, RenewsAt, TakesDemand, TakesNext, asks, no_line, quits, renews, requests}
use Rattle.ic_session.specs.TakenLines.{TakesLine}
use Rattle.ic_session.specs.Echoes.{WritesEcho, echo_in, echo_of, echoed}
use Rattle.ic_session.specs.declared.demand.Demand.{Demand}
use Rattle.ic_session.specs.declared.demand.Demand.TheVariants.{Asks, Requests}
use Rattle.ic_session.specs.declared.next_demand.NextDemand.TheVariants as next_demand
use Rattle.ic_session.specs.declared.mode.Mode.{Mode}
use Rattle.ic_session.proofs.LongLines.{long_asked, long_goes_on, long_stays, long_unasked, long_unechoed}
use Rattle.ic_session.proofs.RequestsTaken.{TakesAt}

-- a line, whether it had a line feed or not, asks for this with some of those behind it, if it doesn't end the session
abbrev pub AsksAt : Mode → List ℕ → Demand → Option (List ℕ) → Option (List ℕ) → Type 0
AsksAt m line d old new = IfSome old (λ bytes. IsSomeAnd new (λ rest. (ended : Bool) → ¬ (Quits m line) → ¬ (Renews m line) → TakesDemand m (record { bytes = line; ended = ended } ∷ lines bytes) d (lines rest)))

-- one that asks a question
pub question_at : (m : Mode) (old : Option (List ℕ)) (line : List ℕ) (q : Question) → IsQuestionAt m line (Some q) → AsksAt m line (Asks q) old old
question_at m None line q a = tt
question_at m (Some xs) line q a = λ ended on stays. asks a.0 a.1

-- one that doesn't
pub request_at : (m : Mode) (old new : Option (List ℕ)) (line : List ℕ) (r : Request) → IsQuestionAt m line None → TakesAt line r old new → AsksAt m line (Requests r) old new
request_at m None new line r none h = tt
request_at m (Some xs) None line r none h = absurd h
request_at m (Some xs) (Some ys) line r none h = λ ended on stays. requests none on stays (h ended)

-- a line that was taken, with those that its demand takes
pub demand_taken : (m : Mode) (old now new : Option (List ℕ)) (line : List ℕ) (ended : Bool) (p : Piece) (d : Demand) → p ≡ Line ended → IfSome old (λ xs. TakesLine p line xs now)
    → ¬ (Quits m line) → ¬ (Renews m line) → AsksAt m line d now new → IfSome old (λ xs. TakesNext m (next_demand.Demand d) xs new)
demand_taken m None now new line ended p d is t on stays h = tt
demand_taken m (Some xs) None new line ended p d is t on stays h = absurd (subst (λ q. TakesLine q line xs None) is t)
demand_taken m (Some xs) (Some ys) None line ended p d is t on stays h = absurd h
demand_taken m (Some xs) (Some ys) (Some zs) line ended p d is t on stays h =
    let taken = subst (λ q. TakesLine q line xs (Some ys)) is t in
    subst (λ ls. TakesDemand m ls d (lines zs)) (sym taken) (h ended on stays)

-- one that is too long
pub long_demand : (m : Mode) (old now : Option (List ℕ)) (line : List ℕ) (p : Piece) → p ≡ TooLong → IfSome old (λ xs. TakesLine p line xs now)
    → IfSome old (λ xs. TakesNext m (next_demand.Demand (Requests (Bench Malformed))) xs now)
long_demand m None now line p is t = tt
long_demand m (Some xs) None line p is t = absurd (subst (λ q. TakesLine q line xs None) is t)
long_demand m (Some xs) (Some ys) line p is t =
    let long = subst (λ q. TakesLine q line xs (Some ys)) is t in
    subst (λ ls. TakesDemand m ls (Requests (Bench Malformed)) (lines ys)) (sym long.1) (requests (λ on q a. long_unasked long.0.bytes long.2 q a) (λ q. long_stays long.0.bytes long.2 q.1) (λ n. long_goes_on long.0.bytes long.2 n.1) (alone (long_asked long.0.bytes long.2)))

-- one that ends the session
pub quit_taken : (m : Mode) (old now : Option (List ℕ)) (line : List ℕ) (ended : Bool) (p : Piece) → p ≡ Line ended → IfSome old (λ xs. TakesLine p line xs now)
    → Quits m line → IfSome old (λ xs. TakesNext m next_demand.Done xs now)
quit_taken m None now line ended p is t on = tt
quit_taken m (Some xs) None line ended p is t on = absurd (subst (λ r. TakesLine r line xs None) is t)
quit_taken m (Some xs) (Some ys) line ended p is t on =
    let taken = subst (λ r. TakesLine r line xs (Some ys)) is t in
    subst (IsDone m) (sym taken) (quits on)

-- one by which another net comes
pub renewal_taken : (m : Mode) (old now : Option (List ℕ)) (line : List ℕ) (ended : Bool) (p : Piece) → p ≡ Line ended → IfSome old (λ xs. TakesLine p line xs now)
    → Renews m line → IfSome old (λ xs. TakesNext m next_demand.Renewal xs now)
renewal_taken m None now line ended p is t on = tt
renewal_taken m (Some xs) None line ended p is t on = absurd (subst (λ r. TakesLine r line xs None) is t)
renewal_taken m (Some xs) (Some ys) line ended p is t on =
    let taken = subst (λ r. TakesLine r line xs (Some ys)) is t in
    subst (λ ls. RenewsAt m ls (lines ys)) (sym taken) (renews on)

-- and none
pub end_taken : (m : Mode) (old now : Option (List ℕ)) (line : List ℕ) (p : Piece) → p ≡ End → IfSome old (λ xs. TakesLine p line xs now) → IfSome old (λ xs. TakesNext m next_demand.Done xs now)
end_taken m None now line p is t = tt
end_taken m (Some xs) now line p is t =
    let none = subst (λ r. TakesLine r line xs now) is t in
    subst (λ zs. IsDone m (lines zs)) (sym none.0) no_line

-- the echo of a line is that of the first line
line_echo : (m : Mode) (xs ys line : List ℕ) (ended : Bool) → lines xs ≡ record { bytes = line; ended = ended } ∷ lines ys → echo_in m line ≡ echoed m (lines xs)
line_echo m xs ys line ended taken = ap (echoed m) (sym taken)

-- it was written
pub echo_written : (m : Mode) (old now : Option (List ℕ)) (line : List ℕ) (ended : Bool) (p : Piece) (d : Demand) (before after : Option (List ℕ)) → p ≡ Line ended
    → IfSome old (λ xs. TakesLine p line xs now) → Appends before after (echo_in m line) → IfSome old (λ xs. WritesEcho m (next_demand.Demand d) xs before after)
echo_written m None now line ended p d before after is t a = tt
echo_written m (Some xs) None line ended p d before after is t a = absurd (subst (λ r. TakesLine r line xs None) is t)
echo_written m (Some xs) (Some ys) line ended p d before after is t a =
    subst (Appends before after) (line_echo m xs ys line ended (subst (λ r. TakesLine r line xs (Some ys)) is t)) a

-- or a front of it
pub echo_begun : (m : Mode) (old now : Option (List ℕ)) (line : List ℕ) (ended : Bool) (p : Piece) (before after : Option (List ℕ)) → p ≡ Line ended
    → IfSome old (λ xs. TakesLine p line xs now) → AppendsFront before after (echo_in m line) → IfSome old (λ xs. AppendsFront before after (echoed m (lines xs)))
echo_begun m None now line ended p before after is t a = tt
echo_begun m (Some xs) None line ended p before after is t a = absurd (subst (λ r. TakesLine r line xs None) is t)
echo_begun m (Some xs) (Some ys) line ended p before after is t a =
    subst (AppendsFront before after) (line_echo m xs ys line ended (subst (λ r. TakesLine r line xs (Some ys)) is t)) a

-- or all of it
pub whole_front : {before after : Option (List ℕ)} {text : List ℕ} → Appends before after text → AppendsFront before after text
whole_front {text = text} a = record { front = text; behind = []; parts = sym (append-nil text); appended = a }

-- or nothing
pub no_front : (m : Mode) (old before : Option (List ℕ)) → IfSome old (λ xs. AppendsFront before before (echoed m (lines xs)))
no_front m None before = tt
no_front m (Some xs) before = record { front = []; behind = echoed m (lines xs); parts = refl; appended = Appends-nil before }

-- a line that is too long has none
long_echo : (m : Mode) (line : List ℕ) → MAX_COMMAND + 1 < length line → echo_in m line ≡ []
long_echo m line long = go m.echoes
  where
    go : (b : Bool) → (if b then echo_of line else []) ≡ []
    go false = refl
    go true = long_unechoed line long

pub long_silent : (m : Mode) (old now : Option (List ℕ)) (line : List ℕ) (p : Piece) (before : Option (List ℕ)) → p ≡ TooLong
    → IfSome old (λ xs. TakesLine p line xs now) → IfSome old (λ xs. WritesEcho m (next_demand.Demand (Requests (Bench Malformed))) xs before before)
long_silent m None now line p before is t = tt
long_silent m (Some xs) None line p before is t = absurd (subst (λ q. TakesLine q line xs None) is t)
long_silent m (Some xs) (Some ys) line p before is t =
    let long = subst (λ q. TakesLine q line xs (Some ys)) is t in
    subst (Appends before before) (sym (ap (echoed m) long.1 ∙ long_echo m long.0.bytes long.2)) (Appends-nil before)

-- no demand, no echo
pub none_silent : (m : Mode) (old before : Option (List ℕ)) → IfSome old (λ xs. WritesEcho m next_demand.Done xs before before)
none_silent m None before = tt
none_silent m (Some xs) before = refl

pub renewal_silent : (m : Mode) (old before : Option (List ℕ)) → IfSome old (λ xs. WritesEcho m next_demand.Renewal xs before before)
renewal_silent m None before = tt
renewal_silent m (Some xs) before = refl
