use Rattle.std.proofs.Common.{rules, ◌≡◌, Some, ap, ◌∙◌, subst, arith}
use Rattle.std.proofs.lemmas.List.Elements.{All-pop, All-push, All-same}
use Rattle.std.specs.declared.thread.PromisedHandle.{PromisedHandle}
use Rattle.atomic_table.specs.Seated.{TableId}
use Rattle.ic_work.specs.declared.worker.Worker.{Worker}
use Rattle.ic_work.specs.declared.crew.ComesHome.{ComesHome}
use Rattle.ic_work.specs.Workers.{IsGuest}
use Rattle.ic_work.proofs.crew.fn.run_crew.scope.Goals as goal

pub spawn_with-requires-clause-runs : goal.spawn_with-requires-clause-runs
spawn_with-requires-clause-runs g c κs within =
    let P : Worker g.row.B.Denot → Type 0 = λ w. IsGuest c.captures.floor.now.claims.now.table w.seat w.pass in
    let rest = All-pop P c.loop-worker.others.items c.pop.new.self.items (Some c.in-Some.worker) c.in-Some.ensures.items c.loop-worker.invariant.guests in
    (rest.1, search rules)

pub job-worker-requires-after_bounds : goal.job-worker-requires-after_bounds
job-worker-requires-after_bounds g c κs within =
    let P : Worker g.row.B.Denot → Type 0 = λ w. IsGuest c.captures.floor.now.claims.now.table w.seat w.pass in
    let rest = All-pop P c.loop-worker.others.items c.pop.new.self.items (Some c.in-Some.worker) c.in-Some.ensures.items c.loop-worker.invariant.guests in
    rw c.in-Err.ensures.err rest.1

pub offset_bounds-floor-started : goal.offset_bounds-floor-started
offset_bounds-floor-started g c =
    let begun = c.loop-worker.invariant.begun in
    let few = c.requires.few in
    omega (arith, begun, few)

pub overflow_add-started : goal.overflow_add-started
overflow_add-started g c =
    let begun = c.loop-worker.invariant.begun in
    let few = c.requires.few in
    omega (arith, begun, few)

pub loop-worker-preserved-in-Ok : goal.loop-worker-preserved-in-Ok
loop-worker-preserved-in-Ok g c =
    let P : Worker g.row.B.Denot → Type 0 = λ w. IsGuest c.captures.floor.now.claims.now.table w.seat w.pass in
    let Q : PromisedHandle (Worker g.row.B.Denot) ComesHome → Type 0 = λ h. h.promise.claims.value.table ≡ c.captures.floor.now.claims.now.table in
    let i = c.loop-worker.invariant in
    let rest = All-pop P c.loop-worker.others.items c.pop.new.self.items (Some c.in-Some.worker) c.in-Some.ensures.items i.guests in
    let more = All-push Q c.loop-worker.handles.items c.in-Ok.handle i.promised (ap (λ p. p.claims.value.table) c.in-Ok.ensures.ok ∙ ap (λ v. v.table) c.of.ensures) in
    let one_more = c.push_reserved.ensures.len in
    let capacity = c.push_reserved.ensures.capacity in
    let one_less = c.in-Some.ensures.cases in
    let begun = i.begun in
    let off = i.off in
    let handles = i.handles in
    let few = i.few in
    let all = i.all in record {
      first = i.first;
      guests = rest.0;
      promised = All-same Q c.push_reserved.new.self.items _ c.push_reserved.ensures.items more;
      begun = omega arith;
      off = omega arith;
      handles = omega arith;
      few = omega arith;
      all = omega arith;
      room = i.room;
      capacity = i.capacity;
    }

pub loop-worker-preserved : goal.loop-worker-preserved
loop-worker-preserved g c =
    let P : Worker g.row.B.Denot → Type 0 = λ w. IsGuest c.captures.floor.now.claims.now.table w.seat w.pass in
    let i = c.loop-worker.invariant in
    let rest = All-pop P c.loop-worker.others.items c.pop.new.self.items (Some c.in-Some.worker) c.in-Some.ensures.items i.guests in
    let one_home = c.take_in.ensures.one in
    let same_room = c.take_in.ensures.room in
    let one_less = c.in-Some.ensures.cases in
    let begun = i.begun in
    let off = i.off in
    let handles = i.handles in
    let few = i.few in
    let all = i.all in
    let room = i.room in record {
      first = c.take_in.ensures.first;
      guests = rest.0;
      promised = i.promised;
      begun = omega arith;
      off = omega arith;
      handles = omega arith;
      few = omega arith;
      all = omega arith;
      room = omega arith;
      capacity = same_room ∙ i.capacity;
    }

pub take_in-requires-in-Some-pop : goal.take_in-requires-in-Some-pop
take_in-requires-in-Some-pop g c =
    let Q : PromisedHandle (Worker g.row.B.Denot) ComesHome → Type 0 = λ h. h.promise.claims.value.table ≡ c.captures.floor.now.claims.now.table in
    let i = c.loop-handle.invariant in
    let rest = All-pop Q c.loop-handle.handles.items c.pop-in-loop-handle.new.self.items (Some c.in-Some-pop.handle) c.in-Some-pop.ensures.items i.promised in
    let one_less = c.in-Some-pop.ensures.cases in
    let all = i.all in
    let room = i.room in record {
      first = i.first;
      guest = subst (λ (table : TableId). IsGuest table c.join-worker.result.seat c.join-worker.result.pass) rest.1 c.join-worker.ensures;
      room = omega arith;
    }

pub loop-handle-preserved : goal.loop-handle-preserved
loop-handle-preserved g c =
    let Q : PromisedHandle (Worker g.row.B.Denot) ComesHome → Type 0 = λ h. h.promise.claims.value.table ≡ c.captures.floor.now.claims.now.table in
    let i = c.loop-handle.invariant in
    let rest = All-pop Q c.loop-handle.handles.items c.pop-in-loop-handle.new.self.items (Some c.in-Some-pop.handle) c.in-Some-pop.ensures.items i.promised in
    let one_home = c.take_in-in-Some-pop.ensures.one in
    let same_room = c.take_in-in-Some-pop.ensures.room in
    let one_less = c.in-Some-pop.ensures.cases in
    let all = i.all in
    let room = i.room in record {
      first = c.take_in-in-Some-pop.ensures.first;
      promised = rest.0;
      all = omega arith;
      room = omega arith;
      capacity = same_room ∙ i.capacity;
    }
