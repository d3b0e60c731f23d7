use Rattle.std.proofs.Common.{map}
use Rattle.std.specs.Prelude.{All}
use Rattle.ic_path.proofs.Alikes.{alike-map}
use Rattle.ic_roster.specs.Rosters.{IsNewEvent, Stands, event_in, IsNamed}
use Rattle.ic_roster.specs.Placed.{stander_in}
use Rattle.ic_roster.proofs.Options.{if_ok}
use Rattle.ic_roster.proofs.Named.{new_key, event_named}
use Rattle.ic_roster.proofs.NamedCauses.{all_kept}
use Rattle.ic_roster.proofs.roster.Roster.insert_event.Goals as goal

pub insert-requires-clause-is_new : goal.insert-requires-clause-is_new
insert-requires-clause-is_new c =
    let fresh : IsNewEvent (map (stander_in c.self.inside.names) c.self.inside.events) c.args.line (event_in c.self.inside.names c.args.event.now.interaction) = rw (← c.self.view_is) at c.requires.is_new in
    new_key c.self.inside.names c.self.inside.events c.args.line c.args.event.now.interaction fresh

pub insert-requires-clause-kept : goal.insert-requires-clause-kept
insert-requires-clause-kept c =
    let standing : All (Stands (map (stander_in c.self.inside.names) c.self.inside.events)) c.args.event.now.causes.now = rw (← c.self.view_is) at c.requires.standing in
    all_kept c.self.inside.names c.self.inside.events c.args.event.now.causes.now standing

pub invariant_of-self : goal.invariant_of-self
invariant_of-self c =
    let named : IsNamed c.self.inside.names c.args.event.now.interaction = rw (← c.self.view_is) at c.requires.named in
    event_named c.self.inside.names c.self.inside.agents c.self.inside.events c.insert.new.self (λ id. record { id = id; interaction = c.args.event.now.interaction; rank = c.args.event.now.rank; born = c.args.event.now.born.now; causes = c.args.event.now.causes.now }) c.insert.result c.self.invariant
    (λ id. named) (if_ok c.insert.result (λ id h. h.1) c.insert.ensures.entered) c.insert.ensures.unchanged

pub returns-clause-entered : goal.returns-clause-entered
returns-clause-entered c = rw (← c.self.view_is) (if_ok c.insert.result (λ id h. (h.0, alike-map (stander_in c.self.inside.names) h.1)) c.insert.ensures.entered)
