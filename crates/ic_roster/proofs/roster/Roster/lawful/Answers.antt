use Rattle.ic_roster.proofs.Named.{own_names, own_lines}
use Rattle.ic_roster.proofs.NamedCauses.{causes_stand}
use Rattle.ic_roster.proofs.roster.Roster.lawful.Goals as goal

pub returns-clause-names : goal.returns-clause-names
returns-clause-names c = rw (← c.self.view_is) (own_names c.self.inside.names c.lawful.ensures c.self.inside.agents c.self.inside.events c.self.invariant c.lawful-2.ensures)

pub returns-clause-lines : goal.returns-clause-lines
returns-clause-lines c = rw (← c.self.view_is) (own_lines c.self.inside.names c.lawful.ensures c.self.inside.agents c.self.inside.events c.self.invariant c.lawful-3.ensures.keys)

pub returns-clause-causes : goal.returns-clause-causes
returns-clause-causes c = rw (← c.self.view_is) (causes_stand c.self.inside.names c.self.inside.events c.lawful-3.ensures.kept)
