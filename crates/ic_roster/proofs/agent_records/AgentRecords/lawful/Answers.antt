use Rattle.ic_roster.proofs.AgentFacts.{own_places}
use Rattle.ic_roster.proofs.agent_records.AgentRecords.lawful.Goals as goal

pub returns : goal.returns
returns c = rw (← c.self.view_is) (own_places _ _ c.self.invariant)
