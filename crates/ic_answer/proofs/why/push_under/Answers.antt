-- The event under the id of one that stands is that one.
use Rattle.std.proofs.Common.{◌++◌, ap, ◌∙◌}
use Rattle.std.proofs.lemmas.Result.{on_ok_weaker}
use Rattle.ic_name.specs.Events.{Event}
use Rattle.ic_answer.specs.Texts.{event_line}
use Rattle.ic_answer.proofs.FoundCauses.{event_there, event_found}
use Rattle.ic_answer.proofs.why.push_under.Goals as goal

pub returns-in_default : goal.returns-in_default
returns-in_default g c = λ x i e. absurd (event_there c.args.bench.now c.lawful.ensures c.args.id x i e c.in_ok-event.field-0 c.in_ok-event.ensures c.in_default.is)

pub returns : goal.returns
returns g c =
    on_ok_weaker c.push_event.result
    (λ put x i e. put ∙ ap (λ (f : Event). c.args.text.now.items ++ event_line f) (event_found c.args.bench.now c.lawful.ensures c.args.id x i e c.in_ok-event.field-0 c.in-Some.event c.in_ok-event.ensures c.in-Some.is))
    c.push_event.ensures
