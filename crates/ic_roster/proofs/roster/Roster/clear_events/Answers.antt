use Rattle.std.proofs.Common.{subst}
use Rattle.ic_path.specs.Orders.{IsIn}
use Rattle.ic_path.proofs.Picks.{none_in}
use Rattle.ic_roster.proofs.ClearedEvents.{left_named}
use Rattle.ic_roster.proofs.roster.Roster.clear_events.Goals as goal

pub invariant_of-self : goal.invariant_of-self
invariant_of-self c = record {
  agents = λ x i. c.self.invariant.agents x ((c.clear.ensures.agents x).0 i).0;
  events = λ x i. absurd (none_in (subst (λ es. IsIn x es) c.clear.ensures.none i));
}

pub returns-clause-agents : goal.returns-clause-agents
returns-clause-agents c = rw (← c.self.view_is) (left_named c.self.inside.names c.self.inside.agents c.clear.new.agents c.self.inside.events c.clear.ensures.agents)
