use Rattle.std.proofs.Common.{sym}
use Rattle.ic_work.proofs.Hands.{stays, then_stays}
use Rattle.ic_work.proofs.Passes.{may_fire}
use Rattle.ic_work.proofs.worker.Worker.fire.Goals as goal

pub shape_of-self : goal.shape_of-self
shape_of-self g c = sym (then_stays (stays c.fire_run-ran.ensures.run) c.let_go.ensures.stays).same_seat

pub shape_of-self-2 : goal.shape_of-self-2
shape_of-self-2 g c = sym (then_stays (stays c.fire_run-ran.ensures.run) c.let_go.ensures.stays).same_near

pub returns-clause-seat : goal.returns-clause-seat
returns-clause-seat g c = (then_stays (stays c.fire_run-ran.ensures.run) c.let_go.ensures.stays).seat

pub returns-clause-pass : goal.returns-clause-pass
returns-clause-pass g c = may_fire c.fire_run-ran.ensures.run
