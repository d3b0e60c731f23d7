use Rattle.std.proofs.Common.{refl, sym, ap, ◌∙◌, subst}
use Rattle.ic_name.specs.declared.ids.EventId.{EventId}
use Rattle.ic_path.specs.Orders.{Alike}
use Rattle.ic_path.proofs.Alikes.{alike_self, alike_back, alike-in}
use Rattle.ic_path.proofs.Picks.{in_first}
use Rattle.ic_roster.specs.Rosters.{RosterView}
use Rattle.ic_set.specs.Removal.{LosesEach}
use Rattle.ic_set.proofs.LostAgents.{lost_each}
use Rattle.ic_set.proofs.Namings.{own_lines_alike}
use Rattle.ic_set.proofs.PutIn.{event_taken_back, no_cause_yet}
use Rattle.ic_set.proofs.admission.put_event.Goals as goal

pub returns-in_default-clause-unchanged : goal.returns-in_default-clause-unchanged
returns-in_default-clause-unchanged g c =
    let events = c.remove_all.ensures.events ∙ ap (λ (v : RosterView). v.events) c.in_default.ensures.unchanged in
    record {
      events = subst (λ ss. Alike c.args.roster.now.events ss) (sym events) (alike_self c.args.roster.now.events);
      links = alike_self (g.L.LinkStore.links c.args.store.now);
    }

pub returns-in_default-clause-children : goal.returns-in_default-clause-children
returns-in_default-clause-children g c =
    let agents = ap (λ (v : RosterView). v.agents) c.in_default.ensures.unchanged in
    subst (λ ms. LosesEach c.args.firing.now.born.now ms c.remove_all.new.roster.agents) agents c.remove_all.ensures.left

pub put_links-requires-clause-lawful : goal.put_links-requires-clause-lawful
put_links-requires-clause-lawful g c =
    let entered = c.in-Ok.ensures.entered in
    c.requires.can.lawful c.in-Ok.id entered.0 (own_lines_alike (alike_back entered.1) c.lawful-2.ensures.lines)

pub remove_event-requires : goal.remove_event-requires
remove_event-requires g c =
    let entered = c.in-Ok.ensures.entered in
    let can = c.requires.can in
    no_cause_yet _ _ _ entered.1 (λ y i q. (can.new y i).0 (ap (λ (d : EventId). d.line) q ∙ entered.0)) can.causes c.lawful.ensures.causes

pub returns-in_default-put_links-clause-unchanged : goal.returns-in_default-put_links-clause-unchanged
returns-in_default-put_links-clause-unchanged g c =
    let entered = c.in-Ok.ensures.entered in
    record { events = event_taken_back _ _ _ _ entered.1 c.remove_event.ensures.gone; links = c.in_default-put_links.ensures.unchanged }

pub returns-in_default-put_links-clause-children : goal.returns-in_default-put_links-clause-children
returns-in_default-put_links-clause-children g c =
    let entered = c.in-Ok.ensures.entered in
    let lost = c.remove_event.ensures.children _ (alike-in entered.1 (in_first _ _)) refl in
    subst (λ ms. LosesEach c.args.firing.now.born.now ms c.remove_event.new.self.agents) c.insert_event.ensures.agents
    (lost_each _ _ _ c.lawful-2.ensures.names c.lawful-in_default-put_links.ensures.names lost)
