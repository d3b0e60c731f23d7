-- The event under the id of one that stands is that one.
use Rattle.std.proofs.Common.{◌++◌, ap, ◌∙◌, append_assoc}
use Rattle.std.specs.Prelude.{codes}
use Rattle.std.proofs.lemmas.Result.{on_ok_weaker}
use Rattle.ic_name.specs.Events.{Event, pair}
use Rattle.ic_name.specs.NameTexts.{pair_text}
use Rattle.ic_answer.specs.Caused.{cause_word}
use Rattle.ic_answer.proofs.FoundCauses.{event_there, event_found}
use Rattle.ic_answer.proofs.causes.push_cause.Goals as goal

pub returns-in_default : goal.returns-in_default
returns-in_default g c = λ x i e. absurd (event_there c.args.bench.now c.lawful.ensures c.args.id x i e c.in_ok-event.field-0 c.in_ok-event.ensures c.in_default.is)

pub returns : goal.returns
returns g c =
    on_ok_weaker c.push_event_name.result
    (λ put x i e. put ∙ ap (λ us. us ++ pair_text (pair c.in-Some.event)) c.in_ok-push.ensures.items
    ∙ append_assoc c.args.text.now.items (codes " ") (pair_text (pair c.in-Some.event))
    ∙ ap (λ (f : Event). c.args.text.now.items ++ cause_word f) (event_found c.args.bench.now c.lawful.ensures c.args.id x i e c.in_ok-event.field-0 c.in-Some.event c.in_ok-event.ensures c.in-Some.is))
    c.push_event_name.ensures
