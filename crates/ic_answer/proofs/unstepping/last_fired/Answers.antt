-- Down over the lines of the history.
use Rattle.std.proofs.Common.{◌≡◌, ◌+◌, ◌-◌, length, ap, arith, subst}
use Rattle.ic_journal.proofs.Answering.{length-noted}
use Rattle.ic_answer.specs.LastFired.{AreSince}
use Rattle.ic_answer.proofs.LastEvents.{first_ids, one_more_id, no_more_ids}
use Rattle.ic_answer.proofs.unstepping.last_fired.Goals as goal

pub loop-line-init : goal.loop-line-init
loop-line-init g c =
    let none = ap length c.new-ids.ensures.items in record {
      since = first_ids c.args.bench.now c.lines-line.result c.new-ids.result.items c.lawful.ensures c.lines-line.ensures c.new-ids.ensures.items;
      few = omega (arith, none);
    }

pub loop-line-preserved-in-Continue-1 : goal.loop-line-preserved-in-Continue-1
loop-line-preserved-in-Continue-1 g c =
    let more = c.loop-line-test.true in
    let next : c.loop-line.line ≡ c.loop-line.line - 1 + 1 = omega (arith, more) in
    let before = subst (λ n. AreSince c.args.bench.now n c.loop-line.ids.items) next c.loop-line.invariant.since in
    let put = c.in_ok-push.ensures.items in
    let long = length-noted c.loop-line.ids.items {new = c.push.new.self.items} c.in-Some.id put in
    let few = c.loop-line.invariant.few in
    let count = c.len.ensures in
    let not_enough = c.if-len-most.false in record {
      since = one_more_id c.args.bench.now (c.loop-line.line - 1) c.loop-line.ids.items c.push.new.self.items c.in-Some.id c.lawful.ensures before c.in-Some.ensures.found put;
      few = omega (arith, long, few, count, not_enough);
    }

pub loop-line-preserved : goal.loop-line-preserved
loop-line-preserved g c =
    let more = c.loop-line-test.true in
    let next : c.loop-line.line ≡ c.loop-line.line - 1 + 1 = omega (arith, more) in
    let before = subst (λ n. AreSince c.args.bench.now n c.loop-line.ids.items) next c.loop-line.invariant.since in
    record { since = no_more_ids c.args.bench.now (c.loop-line.line - 1) c.loop-line.ids.items before c.in_default.ensures.absent; few = c.loop-line.invariant.few }
