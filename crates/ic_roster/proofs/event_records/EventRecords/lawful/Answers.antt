use Rattle.ic_roster.proofs.EventFacts.{own_keys}
use Rattle.ic_roster.proofs.LinkedEvents.{linked_kept}
use Rattle.ic_roster.proofs.event_records.EventRecords.lawful.Goals as goal

pub returns-clause-keys : goal.returns-clause-keys
returns-clause-keys c = rw (← c.self.view_is) (own_keys _ c.self.inside.leads c.self.invariant.0)

pub returns-clause-kept : goal.returns-clause-kept
returns-clause-kept c = rw (← c.self.view_is) (linked_kept c.self.inside.records.slots c.self.invariant.1)
