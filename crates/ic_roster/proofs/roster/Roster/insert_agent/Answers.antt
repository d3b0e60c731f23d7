use Rattle.std.proofs.Common.{◌<◌, length, map}
use Rattle.ic_path.proofs.Alikes.{alike-map}
use Rattle.ic_names.specs.Tables.{name_at}
use Rattle.ic_roster.specs.Rosters.{IsNewName}
use Rattle.ic_roster.specs.Placed.{member_in}
use Rattle.ic_roster.proofs.Options.{if_ok}
use Rattle.ic_roster.proofs.Named.{new_place, agent_named}
use Rattle.ic_roster.proofs.roster.Roster.insert_agent.Goals as goal

pub insert-requires : goal.insert-requires
insert-requires c =
    let fresh : IsNewName (map (member_in c.self.inside.names) c.self.inside.agents) (name_at c.self.inside.names c.args.name.place) = rw (← c.self.view_is) at c.requires.is_new in
    new_place c.self.inside.names c.self.inside.agents c.args.name.place fresh

pub invariant_of-self : goal.invariant_of-self
invariant_of-self c =
    let inside : c.args.name.place < length c.self.inside.names = rw (← c.self.view_is) at c.requires.inside in
    agent_named c.self.inside.names c.self.inside.agents c.self.inside.events c.insert.new.self (λ id. record { id = id; name = c.args.name; kind = c.args.kind }) c.insert.result c.self.invariant
    (λ id. inside) (if_ok c.insert.result (λ id h. h.1) c.insert.ensures.entered) c.insert.ensures.unchanged

pub returns-clause-entered : goal.returns-clause-entered
returns-clause-entered c = rw (← c.self.view_is) (if_ok c.insert.result (λ id h. (h.0, alike-map (member_in c.self.inside.names) h.1)) c.insert.ensures.entered)
