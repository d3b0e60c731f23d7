-- Lines that are longer than a command may be.
use Rattle.std.proofs.Common.{◌≡◌, ℕ, ◌+◌, ◌-◌, ◌<◌, Bool, true, false, List, [], length, take, nat_le, rules, refl, sym, ap, arith, ◌∙◌}
use Rattle.std.proofs.lemmas.List.{length-take}
use Rattle.std.specs.Io.BufRead.{strip_last, ends_with_byte}
use Rattle.ic_name.specs.Events.{Pair}
use Rattle.ic_command.proofs.Bodies.{apart}
use Rattle.ic_command.specs.Asked.{IsAsked, of_request}
use Rattle.ic_command.specs.Commands.{is_well_formed, unsaid}
use Rattle.ic_command.specs.Listed.{IsListed}
use Rattle.ic_command.specs.Questions.{IsNew, IsQuestion, IsQuit}
use Rattle.ic_command.specs.Requests.{of_bench}
use Rattle.ic_command.specs.declared.asked.Asked.TheVariants.{Alone}
use Rattle.ic_command.specs.declared.command.Command.TheVariants.{Malformed}
use Rattle.ic_command.specs.declared.command.TheConstants.{MAX_COMMAND}
use Rattle.ic_command.specs.declared.question.Question.{Question}
use Rattle.ic_command.specs.declared.request.Request.TheVariants.{Bench}
use Rattle.ic_session.specs.Echoes.{echo_of}

-- longer by more than its end
long_body : (line : List ℕ) → MAX_COMMAND + 1 < length line → nat_le (length (strip_last 13 line)) MAX_COMMAND ≡ false
long_body line long = go (ends_with_byte 13 line) refl
  where
    over : (body : List ℕ) → MAX_COMMAND < length body → nat_le (length body) MAX_COMMAND ≡ false
    over body more = search (rules, arith, more)

    go : (b : Bool) → ends_with_byte 13 line ≡ b → nat_le (length (strip_last 13 line)) MAX_COMMAND ≡ false
    go true e =
        let cut : strip_last 13 line ≡ take (length line - 1) line = rw e refl in
        let count = length-take (length line - 1) line in
        ap (λ body. nat_le (length body) MAX_COMMAND) cut ∙ over (take (length line - 1) line) (omega arith)
    go false e = let cut : strip_last 13 line ≡ line = rw e refl in ap (λ body. nat_le (length body) MAX_COMMAND) cut ∙ over line (omega arith)

-- so it isn't well formed
long_line : (line : List ℕ) → MAX_COMMAND + 1 < length line → is_well_formed (strip_last 13 line) ≡ false
long_line line long = rw (long_body line long) refl

-- and has no echo
pub long_unechoed : (line : List ℕ) → MAX_COMMAND + 1 < length line → echo_of line ≡ []
long_unechoed line long = rw (long_body line long) refl

-- such a line is no command
pub long_asked : (line : List ℕ) → MAX_COMMAND + 1 < length line → IsAsked line (Alone (Bench Malformed))
long_asked line long =
    let broken = long_line line long in
    of_request (λ n a. apart (sym a.0 ∙ broken)) (of_bench (λ r whole a. apart (sym whole ∙ broken)) (unsaid broken))

-- and lists no event
pub long_unlisted : (line : List ℕ) → MAX_COMMAND + 1 < length line → (p : Pair) → IsListed line p → ⊥
long_unlisted line long p l = apart (sym l.0 ∙ long_line line long)

-- and asks no question
pub long_unasked : (line : List ℕ) → MAX_COMMAND + 1 < length line → (q : Question) → IsQuestion line q → ⊥
long_unasked line long q a = apart (sym a.0 ∙ long_line line long)

-- and doesn't end the session
pub long_stays : (line : List ℕ) → MAX_COMMAND + 1 < length line → IsQuit line → ⊥
long_stays line long q = apart (sym q.0 ∙ long_line line long)

-- and no other net comes behind it
pub long_goes_on : (line : List ℕ) → MAX_COMMAND + 1 < length line → IsNew line → ⊥
long_goes_on line long q = apart (sym q.0 ∙ long_line line long)
