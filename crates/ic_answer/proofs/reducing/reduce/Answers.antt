use Rattle.ic_answer.proofs.ChangedEvents.{changed_at_error, reducing_changes}
use Rattle.ic_answer.proofs.ReducingReplies.{reduction_told}
use Rattle.ic_answer.proofs.reducing.reduce.Goals as goal

pub returns-clause-turns : goal.returns-clause-turns
returns-clause-turns g c =
    reduction_told c.args.bench.now c.fire_least-fired.new.bench c.args.most c.fire_least-fired.result.0 c.fire_least-fired.result.1 c.end_answer.result
    c.fire_least-fired.ensures c.end_answer.ensures.answer

pub returns-clause-changed : goal.returns-clause-changed
returns-clause-changed g c =
    changed_at_error c.args.bench.now c.fire_least-fired.new.bench c.end_answer.result
    (reducing_changes c.args.bench.now c.fire_least-fired.new.bench c.args.most c.fire_least-fired.result.0 c.fire_least-fired.result.1 c.lawful.ensures c.fire_least-fired.ensures)
    c.end_answer.ensures.error
