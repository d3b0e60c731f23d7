use Rattle.std.proofs.Common.{Some, arith, ◌∙◌}
use Rattle.std.proofs.lemmas.List.Elements.{All-pop}
use Rattle.ic_work.specs.declared.worker.Worker.{Worker}
use Rattle.ic_work.specs.Workers.{IsGuest}
use Rattle.ic_work.proofs.crew.take_all_in.Goals as goal

pub take_in-requires-clause-guest : goal.take_in-requires-clause-guest
take_in-requires-clause-guest g c =
    let P : Worker g.row.B.Denot → Type 0 = λ w. IsGuest c.args.claims.now.table w.seat w.pass in
    let rest = All-pop P c.loop-worker.others.items c.pop.new.self.items (Some c.in-Some.worker) c.in-Some.ensures.items c.loop-worker.invariant.guests in
    rest.1

pub loop-worker-preserved : goal.loop-worker-preserved
loop-worker-preserved g c =
    let P : Worker g.row.B.Denot → Type 0 = λ w. IsGuest c.args.claims.now.table w.seat w.pass in
    let i = c.loop-worker.invariant in
    let rest = All-pop P c.loop-worker.others.items c.pop.new.self.items (Some c.in-Some.worker) c.in-Some.ensures.items i.guests in
    let one_home = c.take_in.ensures.one in
    let same_room = c.take_in.ensures.room in
    let one_less = c.in-Some.ensures.cases in
    let room = i.room in
    let all = i.all in
    record {
      first = c.take_in.ensures.first;
      guests = rest.0;
      room = omega arith;
      all = omega arith;
      capacity = same_room ∙ i.capacity;
    }
