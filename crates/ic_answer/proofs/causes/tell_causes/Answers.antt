-- The events are all that stand in the machine's state.
use Rattle.std.proofs.Common.{rules, ◌≡◌, ◌++◌, length, sym, subst, refl}
use Rattle.std.specs.Prelude.{codes}
use Rattle.std.specs.Fmt.{decimal}
use Rattle.ic_set.specs.Orders.{AreInOrder, IsAny}
use Rattle.ic_journal.specs.Views.{set_of}
use Rattle.ic_answer.proofs.CausedEvents.{HasCaused, none_caused, more_caused, tells_causes}
use Rattle.ic_answer.proofs.causes.tell_causes.Goals as goal

pub loop-id-init : goal.loop-id-init
loop-id-init g c =
    let ys = c.deref-id-items.result.now in
    let head = codes "causes " ++ decimal (length ys) ++ codes "\n" in
    let e : c.into_bytes-text.result.items ≡ head = search rules in
    subst (λ t. HasCaused c.args.bench.now ys head 0 t) (sym e) (none_caused c.args.bench.now ys head)

pub loop-id-preserved : goal.loop-id-preserved
loop-id-preserved g c =
    let ys = c.deref-id-items.result.now in
    more_caused c.args.bench.now ys (codes "causes " ++ decimal (length ys) ++ codes "\n") c.loop-id.text.items c.push_caused.new.text.items c.loop-id.id-index _ c.loop-id-test.true c.loop-id.invariant
    c.in_ok-push_caused.ensures

pub returns : goal.returns
returns g c =
    let ys = c.deref-id-items.result.now in
    tells_causes c.args.bench.now c.lawful.ensures ys (subst (λ ds. AreInOrder (set_of c.args.bench.now) IsAny ds) (sym c.deref-id-items.ensures.value) c.in_ok-ids.ensures) (codes "causes " ++ decimal (length ys) ++ codes "\n") c.loop-id.text.items c.loop-id.id-index c.loop-id-test.false refl c.loop-id.invariant
