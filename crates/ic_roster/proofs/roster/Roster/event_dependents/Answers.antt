use Rattle.ic_roster.proofs.NamedCauses.{users_named}
use Rattle.ic_roster.proofs.roster.Roster.event_dependents.Goals as goal

pub returns : goal.returns
returns c = rw (← c.self.view_is) (users_named c.self.inside.names c.self.inside.events c.args.id c.dependents.result c.dependents.ensures)
