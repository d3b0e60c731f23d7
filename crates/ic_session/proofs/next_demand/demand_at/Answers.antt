use Rattle.std.proofs.Common.{◌≡◌, ℕ, List, Option, subst}
use Rattle.ic_command.specs.declared.question.Question.{Question}
use Rattle.ic_session.specs.Modes.{IsQuestionAt}
use Rattle.ic_session.specs.declared.mode.Mode.{Mode}
use Rattle.ic_session.specs.Streams.{left_in}
use Rattle.ic_session.proofs.DemandsTaken.{question_at, request_at}
use Rattle.ic_session.proofs.next_demand.demand_at.Goals as goal

-- what the bytes that were read ask, the line does
asks : (m : Mode) (bytes line : List ℕ) (a b : Option Question) → bytes ≡ line → a ≡ b → IsQuestionAt m bytes a → IsQuestionAt m line b
asks m bytes line a b same is h = subst (IsQuestionAt m line) is (subst (λ xs. IsQuestionAt m xs a) same h)

pub returns-in-Some-clause-taken : goal.returns-in-Some-clause-taken
returns-in-Some-clause-taken g c =
    question_at c.args.mode (left_in g.R.Read.remaining c.args.source.now) c.args.source.now.line.items c.in-Some.question
    (asks c.args.mode _ _ _ _ c.deref.ensures.value c.in-Some.is c.in_ok-question.ensures)

pub returns-in_ok-request-in-None-clause-taken : goal.returns-in_ok-request-in-None-clause-taken
returns-in_ok-request-in-None-clause-taken g c =
    request_at c.args.mode (left_in g.R.Read.remaining c.args.source.now) (left_in g.R.Read.remaining c.request_at.new.source)
    c.args.source.now.line.items c.in_ok-request-in-None.request
    (asks c.args.mode _ _ _ _ c.deref.ensures.value c.in-None.is c.in_ok-question.ensures) c.in_ok-request-in-None.ensures.taken
