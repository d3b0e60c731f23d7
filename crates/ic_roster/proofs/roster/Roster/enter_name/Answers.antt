use Rattle.ic_roster.proofs.Named.{KeepsPlaces, kept_by_name, agents_stay, events_stay, all_still_named}
use Rattle.ic_roster.proofs.roster.Roster.enter_name.Goals as goal

-- the names stand where they stood
keeps : (c : goal.After-enter) → KeepsPlaces c.self.inside.names c.enter.new.self
keeps c = kept_by_name _ _ c.args.name.now c.enter.result c.enter.ensures.grown c.enter.ensures.unchanged

pub invariant_of-self : goal.invariant_of-self
invariant_of-self c = all_still_named _ _ (keeps c) c.self.inside.agents c.self.inside.events c.self.invariant

pub returns-clause-agents : goal.returns-clause-agents
returns-clause-agents c = rw (← c.self.view_is) (agents_stay _ _ (keeps c) c.self.inside.agents c.self.inside.events c.self.invariant)

pub returns-clause-events : goal.returns-clause-events
returns-clause-events c = rw (← c.self.view_is) (events_stay _ _ (keeps c) c.self.inside.agents c.self.inside.events c.self.invariant)
