use Rattle.std.proofs.Common.{◌++◌, length, length-set, false, sym, subst, ap, ◌∙◌, arith}
use Rattle.ic_path.proofs.Alikes.{alike-cons}
use Rattle.ic_names.specs.Queues.{place_of, lead_at, leads_of, IsRun, IsQueue, IsLeast}
use Rattle.ic_names.proofs.Flags.{queued_flag, taken_flagged}
use Rattle.ic_names.proofs.Runs.{run_rest}
use Rattle.ic_names.proofs.Queued.{first_least}
use Rattle.ic_names.proofs.queue.LeadQueue.take_least.Goals as goal

pub bring_top-requires-clause-run : goal.bring_top-requires-clause-run
bring_top-requires-clause-run c =
    let queue = subst (IsQueue c.args.names.now) (sym c.self.view_is) c.requires.queue in
    run_rest (subst (IsRun c.args.names.now) c.in_ok-least.ensures.popped queue.run)

pub index_mut-requires : goal.index_mut-requires
index_mut-requires c =
    let queued = c.self.inside.queued in
    let inside = queued_flag (c.self.inside.run.leads ++ c.self.inside.heap.items) (c.bring_top.new.run.leads ++ c.bring_top.new.heap.items) c.in_ok-least.least.name.place queued.items c.self.invariant.flagged (rw c.in_ok-least.ensures.popped (alike-cons c.in_ok-least.least.name.place c.bring_top.ensures.alike)) in
    omega (arith, inside, queued.ok.0)

pub invariant_of-self-2 : goal.invariant_of-self-2
invariant_of-self-2 c =
    let queued = c.self.inside.queued.items in
    let place = c.in_ok-least.least.name.place in
    let same = length-set queued place false in
    let before = c.self.invariant in
    let rooms = c.bring_top.ensures.room in
    record {
      flagged = taken_flagged (c.self.inside.run.leads ++ c.self.inside.heap.items) (c.bring_top.new.run.leads ++ c.bring_top.new.heap.items) place queued before.flagged (rw c.in_ok-least.ensures.popped (alike-cons place c.bring_top.ensures.alike));
      run_first = c.bring_top.ensures.some;
      heap_room = omega (arith, same, before.heap_room, rooms.1);
      run_room = λ some. (let had = before.run_room (omega (arith, same, some)) in omega (arith, had, rooms.0, c.in_ok-least.ensures.room));
    }

pub returns-clause-least : goal.returns-clause-least
returns-clause-least c =
    let run = sym (ap (λ v. v.run) c.self.view_is) ∙ c.in_ok-least.ensures.popped in
    subst (IsLeast c.args.names.now (leads_of c.args.self.now)) (ap (λ ls. place_of (lead_at ls 0)) run) (first_least c.requires.queue (omega (arith, ap length run)))

pub returns-clause-others : goal.returns-clause-others
returns-clause-others c = rw (← c.self.view_is, c.in_ok-least.ensures.popped) (alike-cons c.in_ok-least.least.name.place c.bring_top.ensures.alike)
