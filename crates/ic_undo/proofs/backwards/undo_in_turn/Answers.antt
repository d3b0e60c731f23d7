use Rattle.std.proofs.Common.{◌≡◌, ◌+◌, ◌-◌, drop, length, reverse, arith, subst}
use Rattle.std.proofs.lemmas.List.{drop_all}
use Rattle.ic_journal.specs.Undone.{AreUndone}
use Rattle.ic_undo.proofs.PlacedEvents.{order_length, at_place}
use Rattle.ic_undo.proofs.NextUndone.{undone_next, none_refused}
use Rattle.ic_undo.proofs.StayedBenches.{unchanged, none_undone}
use Rattle.ic_undo.proofs.backwards.undo_in_turn.Goals as goal

pub loop-place-init : goal.loop-place-init
loop-place-init g c = record {
  did = λ order free named. (
      let long = order_length order c.args.ids.now named in
      rw (drop_all (length c.args.ids.now) order (omega (arith, long))) (none_undone c.args.bench.now c.args.bench.now (unchanged c.args.bench.now)));
  enough = c.requires.room;
}

pub loop-place-preserved : goal.loop-place-preserved
loop-place-preserved g c =
    let end = c.loop-place.auto.place in
    let more = c.loop-place-test.true in
    let enough = c.loop-place.invariant.enough in
    let room = c.in-Ok.ensures.0.room in
    let next : c.loop-place.place ≡ c.loop-place.place - 1 + 1 = omega (arith, more) in record {
      did = λ order free named. (
          let long = order_length order c.args.ids.now named in
          let at = at_place order c.args.ids.now (c.loop-place.place - 1) (record { slot = 0; line = 0 }) named (omega (arith, end, more, long)) in
          let did : AreUndone c.args.bench.now (reverse (drop (c.loop-place.place - 1 + 1) order)) c.loop-place.bench = subst (λ k. AreUndone c.args.bench.now (reverse (drop k order)) c.loop-place.bench) next (c.loop-place.invariant.did order free named) in
          undone_next c.args.bench.now c.loop-place.bench order (c.loop-place.place - 1) _ at free c.lawful.ensures.set.own_lines c.lawful-in-loop-place.ensures did c.undo.new.self c.in-Ok.ensures);
      enough = omega (arith, room, more, enough);
    }

pub unreachable-requires : goal.unreachable-requires
unreachable-requires g c =
    let end = c.loop-place.auto.place in
    let more = c.loop-place-test.true in
    let enough = c.loop-place.invariant.enough in
    let next : c.loop-place.place ≡ c.loop-place.place - 1 + 1 = omega (arith, more) in
    let order = c.requires.free.0 in
    let long = order_length order c.args.ids.now c.requires.free.2 in
    let at = at_place order c.args.ids.now (c.loop-place.place - 1) (record { slot = 0; line = 0 }) c.requires.free.2 (omega (arith, end, more, long)) in
    let did : AreUndone c.args.bench.now (reverse (drop (c.loop-place.place - 1 + 1) order)) c.loop-place.bench = subst (λ k. AreUndone c.args.bench.now (reverse (drop k order)) c.loop-place.bench) next (c.loop-place.invariant.did order c.requires.free.1 c.requires.free.2) in
    none_refused c.args.bench.now c.loop-place.bench order (c.loop-place.place - 1) _ at c.requires.free.1 c.lawful.ensures.set.own_lines c.lawful-in-loop-place.ensures did c.undo.new.self c.in_default.field-0 (omega (arith, enough, more)) c.in_default.ensures
