use Rattle.std.proofs.Common.{Some, refl, sym, ap, subst, arith, ◌∙◌}
use Rattle.std.specs.BTreeSet.{contains}
use Rattle.std.specs.Ordering.{nat_cmp}
use Rattle.ic_name.specs.declared.ids.EventId.{EventId}
use Rattle.ic_journal.specs.Reads.{StandsIn, NoneStands, AreDependentsOf}
use Rattle.ic_undo.proofs.RestingLines.{lines_none}
use Rattle.ic_undo.proofs.RestingReached.{reached_first, reached_all, reached_few, next_stands, reached_more}
use Rattle.ic_undo.proofs.resting.reached_from.Goals as goal

pub add_new-requires : goal.add_new-requires
add_new-requires g c = rw c.new-ids.ensures.items (lines_none (contains nat_cmp c.new-lines.result) (λ n. rw c.new-lines.ensures.empty refl))

pub loop-next-init : goal.loop-next-init
loop-next-init g c = record {
  lines = c.in_ok-add_new.ensures.lines;
  reached = reached_first c.args.bench.now c.args.id c.requires c.add_new.new.ids.items (rw c.new-ids.ensures.items at c.in_ok-add_new.ensures.put);
}

pub unreachable-requires : goal.unreachable-requires
unreachable-requires g c =
    let v = c.args.bench.now in
    let ids = c.loop-next.ids.items in
    let next = c.loop-next-test.true in
    let count = c.len.ensures in
    let stands = next_stands v c.lawful.ensures.set c.args.id.line ids c.loop-next.next c.loop-next.invariant.reached c.index.result.now (omega (arith, next, count)) in
    let none : NoneStands v c.index.result.now = rw c.in_default.is at c.in_ok-dependents.ensures in
    none stands.0 stands.1.0 (stands.1.1 ∙ ap (λ (e : EventId). e.line) (sym c.index.ensures))

pub loop-next-smaller : goal.loop-next-smaller
loop-next-smaller g c =
    let next = c.loop-next-test.true in
    let count = c.len.ensures in
    let few = reached_few c.args.bench.now c.lawful.ensures.set c.args.id.line c.loop-next.ids.items c.loop-next.next c.loop-next.invariant.reached c.loop-next.invariant.lines.once in
    omega (arith, next, count, few)

pub loop-next-preserved : goal.loop-next-preserved
loop-next-preserved g c =
    let v = c.args.bench.now in
    let ids = c.loop-next.ids.items in
    let k = c.loop-next.next in
    let d = c.index.result.now in
    let next = c.loop-next-test.true in
    let count = c.len.ensures in
    let told : AreDependentsOf v d (Some c.in-Some.dependents.items) = rw c.in-Some.is at c.in_ok-dependents.ensures in
    let put = rw c.deref.ensures.value at c.in_ok-add_new-2.ensures.put in
    record {
      lines = c.in_ok-add_new-2.ensures.lines;
      reached = reached_more v c.lawful.ensures.set c.args.id.line ids k c.loop-next.invariant.reached d (omega (arith, next, count)) c.in-Some.dependents.items c.add_new-in-loop-next.new.ids.items told.0 (subst (λ e. StandsIn v e told.0) c.index.ensures told.1) told.2 put;
    }

pub returns : goal.returns
returns g c =
    let past = c.loop-next-test.false in
    let count = c.len.ensures in
    reached_all c.args.bench.now c.lawful.ensures.set c.args.id.line c.loop-next.ids.items c.loop-next.next c.loop-next.invariant.reached (omega (arith, past, count)) c.loop-next.invariant.lines.once
