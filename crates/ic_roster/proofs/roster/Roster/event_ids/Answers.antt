use Rattle.std.proofs.Common.{map, sym, subst, ◌∙◌}
use Rattle.ic_path.specs.Orders.{Alike}
use Rattle.ic_path.proofs.Alikes.{alike_self}
use Rattle.ic_roster.specs.Rosters.{Stander}
use Rattle.ic_roster.specs.Placed.{stander_in}
use Rattle.ic_roster.proofs.Options.{if_ok}
use Rattle.ic_roster.proofs.Named.{stander_ids}
use Rattle.ic_roster.proofs.roster.Roster.event_ids.Goals as goal

pub returns : goal.returns
returns c = rw (← c.self.view_is) (if_ok c.ids.result (λ ids same. (let ds = map (λ (x : Stander). x.id) (map (stander_in c.self.inside.names) c.self.inside.events) in
    subst (λ es. Alike ds es) (stander_ids c.self.inside.names c.self.inside.events ∙ sym same) (alike_self ds))) c.ids.ensures)
