use Rattle.ic_path.proofs.Alikes.{alike_self}
use Rattle.ic_path.proofs.Errors.{at_error}
use Rattle.ic_trace.proofs.Flags.{same_taken, one_more_taken}
use Rattle.ic_trace.proofs.past.firing.fire_in_set.Goals as goal
use Rattle.ic_set.proofs.Admissions.{same_self}

pub returns-in_err-make_room-clause-unchanged : goal.returns-in_err-make_room-clause-unchanged
returns-in_err-make_room-clause-unchanged c = at_error _ (same_self c.args.set.now.set)

pub admit-requires-clause-new_line : goal.admit-requires-clause-new_line
admit-requires-clause-new_line c x i = c.free_line-line.ensures.unused x (rw c.roster.ensures.events i)

pub returns-in_err-admit-clause-taken : goal.returns-in_err-admit-clause-taken
returns-in_err-admit-clause-taken c =
    same_taken c.args.set.now.set.events c.admit.new.self.set.events c.args.taken.now.items c.make_room.new.taken.items c.in_err-admit.ensures.unchanged.events c.make_room.ensures.same c.requires.taken

pub returns-clause-taken : goal.returns-clause-taken
returns-clause-taken c =
    let e = c.requires.active in
    let v = c.args.set.now.set in
    let are = same_taken v.events v.events c.args.taken.now.items c.make_room.new.taken.items (alike_self v.events) c.make_room.ensures.same c.requires.taken in
    one_more_taken v c.admit.new.self.set e.0 c.free_line-line.result c.in_ok-admit.field-0 (c.in_ok-admit.ensures.admitted e.0 e.1) c.make_room.new.taken.items are c.in_ok-make_room.ensures.room
