use Rattle.std.proofs.Common.{◌≡◌, ◌∙◌}
use Rattle.ic_theory.specs.Sets.{consumed_times}
use Rattle.ic_set.specs.Views.{standing}
use Rattle.ic_trace.specs.DeepEvents.{deep_events}
use Rattle.ic_set.proofs.ConsumedAgents.{zero_unless}
use Rattle.ic_trace.proofs.DeepKinds.{kind_beside, kind_taken}
use Rattle.ic_trace.proofs.FiredPasts.{are_deep}
use Rattle.ic_trace.proofs.past.Past.kind.Goals as goal

pub returns-then-consume : goal.returns-then-consume
returns-then-consume c =
    let some = rw c.deref.ensures.value at (c.consume.ensures.0 c.if-consume.true) in
    rw (← c.self.view_is) (kind_taken c.self.inside.set.set.start (deep_events c.self.inside.deep.items) (standing c.self.inside.set.set) (are_deep _ _ c.self.invariant.0) c.args.name.now some)

pub returns : goal.returns
returns c =
    let none : consumed_times c.args.name.now (deep_events c.self.inside.deep.items) ≡ 0 =
    zero_unless _ (λ some. (let t = c.consume.ensures.1 (rw c.deref.ensures.value some) in let f = c.if-consume.false in cc)) in
    rw (← c.self.view_is) (c.kind.ensures ∙ kind_beside c.self.inside.set.set.start (deep_events c.self.inside.deep.items) (standing c.self.inside.set.set) (are_deep _ _ c.self.invariant.0) c.args.name.now c.lawful.ensures.shallow none)
