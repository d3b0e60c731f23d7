use Rattle.ic_roster.proofs.EventFacts.{lead_indexed}
use Rattle.ic_roster.proofs.event_records.EventRecords.is_lead.Goals as goal

pub returns : goal.returns
returns c = rw (c.is_some.ensures, c.get.ensures, ← c.self.view_is) (lead_indexed c.self.inside.records.slots c.self.inside.leads c.self.invariant.0 c.args.name)
