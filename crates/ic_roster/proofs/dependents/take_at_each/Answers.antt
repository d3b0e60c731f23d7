use Rattle.std.proofs.lemmas.List.{take_more}
use Rattle.ic_roster.specs.RecordChanges.{Takes}
use Rattle.ic_roster.proofs.RecordLoops.{new_here, changes_more}
use Rattle.ic_roster.proofs.dependents.take_at_each.Goals as goal

pub loop-cause-preserved : goal.loop-cause-preserved
loop-cause-preserved c =
    let ks = c.args.causes.now in
    let i = c.loop-cause.cause-index in
    rw (take_more ks i 0 c.loop-cause-test.true)
    (changes_more (Takes c.args.event) _ _ _ c.loop-cause.records.slots _ (new_here ks i 0 c.loop-cause-test.true c.requires) c.loop-cause.invariant c.take_at.ensures)
