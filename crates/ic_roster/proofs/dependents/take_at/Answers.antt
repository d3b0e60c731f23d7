use Rattle.ic_roster.specs.RecordChanges.{Takes}
use Rattle.ic_roster.proofs.RecordFacts.{changes_after}
use Rattle.ic_roster.proofs.dependents.take_at.Goals as goal

pub returns-in-Some : goal.returns-in-Some
returns-in-Some c = changes_after c.args.records.now.slots c.args.cause c.in-Some.record.now _ c.in-Some.ensures.value c.remove_dependent.ensures.same (Takes c.args.event) c.remove_dependent.ensures.dependents
