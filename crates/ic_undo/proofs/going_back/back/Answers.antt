use Rattle.ic_undo.proofs.StayedBenches.{unchanged}
use Rattle.ic_undo.proofs.WaysBack.{nothing_done}
use Rattle.ic_undo.proofs.going_back.back.Goals as goal

pub returns-in_default-clause-fault : goal.returns-in_default-clause-fault
returns-in_default-clause-fault g c = nothing_done c.args.bench.now c.lawful.ensures c.args.mark.now c.requires c.lawful-2.ensures c.args.bench.now (unchanged c.args.bench.now)

pub returns-in_default-missing_events-clause-fault : goal.returns-in_default-missing_events-clause-fault
returns-in_default-missing_events-clause-fault g c = nothing_done c.args.bench.now c.lawful.ensures c.args.mark.now c.requires c.lawful-2.ensures c.args.bench.now (unchanged c.args.bench.now)
