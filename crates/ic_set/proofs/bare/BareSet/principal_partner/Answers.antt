use Rattle.std.proofs.Common.{◌≡◌, subst}
use Rattle.std.proofs.lemmas.Bool.{iff_false}
use Rattle.ic_names.specs.Tables.{name_at}
use Rattle.ic_path.specs.Orders.{IsIn}
use Rattle.ic_roster.specs.Rosters.{Member, Stander}
use Rattle.ic_set.specs.Sets.{IsKept}
use Rattle.ic_set.specs.Views.{NamedView}
use Rattle.ic_set.proofs.ConsumedAgents.{lead_consumed}
use Rattle.ic_set.proofs.Partners.{LeadsNone, none_led}
use Rattle.ic_set.proofs.PrincipalEnds.{end_there, port_there, lead_consumes, not_consumed, partner_there}
use Rattle.ic_set.proofs.bare.BareSet.principal_partner.Goals as goal

pub returns-then-is_lead-clause-consumed : goal.returns-then-is_lead-clause-consumed
returns-then-is_lead-clause-consumed g c =
    let x = subst (λ (w : NamedView). (x : Stander) × IsIn x w.set.events × (x.event.lead ≡ name_at w.names c.args.name.place)) c.self.view_is (c.is_lead.ensures.0 c.if-is_lead.true) in
    lead_consumed c.args.self.now.set _ x.0 x.1 x.2

pub unreachable-requires : goal.unreachable-requires
unreachable-requires g c =
    let k = subst (λ (w : NamedView). IsKept w.set (g.L.LinkStore.links c.self.inside.store)) c.self.view_is c.self.invariant in
    let m : Member = record { id = c.args.agent; name = name_at c.args.self.now.names c.args.name.place; kind = c.requires.there.0 } in
    let free = subst (λ (w : NamedView). LeadsNone w.set (name_at w.names c.args.name.place)) c.self.view_is (none_led _ _ c.is_lead.result c.is_lead.ensures c.if-is_lead.false) in
    let f = end_there _ _ k m c.requires.there.1 c.far.result c.far.ensures free in
    c.in_default.not-End f.0 f.1

pub port_of-partner-requires : goal.port_of-partner-requires
port_of-partner-requires g c =
    let k = subst (λ (w : NamedView). IsKept w.set (g.L.LinkStore.links c.self.inside.store)) c.self.view_is c.self.invariant in
    let m : Member = record { id = c.args.agent; name = name_at c.args.self.now.names c.args.name.place; kind = c.requires.there.0 } in
    let free = subst (λ (w : NamedView). LeadsNone w.set (name_at w.names c.args.name.place)) c.self.view_is (none_led _ _ c.is_lead.result c.is_lead.ensures c.if-is_lead.false) in
    port_there _ _ k m c.requires.there.1 c.far.result c.far.ensures c.in-End.end c.in-End.is free

pub returns-then-is_lead_port-clause-consumed : goal.returns-then-is_lead_port-clause-consumed
returns-then-is_lead_port-clause-consumed g c =
    let k = subst (λ (w : NamedView). IsKept w.set (g.L.LinkStore.links c.self.inside.store)) c.self.view_is c.self.invariant in
    let m : Member = record { id = c.args.agent; name = name_at c.args.self.now.names c.args.name.place; kind = c.requires.there.0 } in
    lead_consumes _ _ k m c.requires.there.1 c.far.result c.far.ensures c.in-End.end c.in-End.is _ c.port_of-partner.ensures.port (c.is_lead_port.ensures.0 c.if-is_lead_port.true)

pub returns-clause-living : goal.returns-clause-living
returns-clause-living g c =
    let k = subst (λ (w : NamedView). IsKept w.set (g.L.LinkStore.links c.self.inside.store)) c.self.view_is c.self.invariant in
    let m : Member = record { id = c.args.agent; name = name_at c.args.self.now.names c.args.name.place; kind = c.requires.there.0 } in
    let free = subst (λ (w : NamedView). LeadsNone w.set (name_at w.names c.args.name.place)) c.self.view_is (none_led _ _ c.is_lead.result c.is_lead.ensures c.if-is_lead.false) in
    not_consumed _ _ k m c.requires.there.1 c.far.result c.far.ensures c.in-End.end c.in-End.is _ c.port_of-partner.ensures.port free (iff_false c.is_lead_port.ensures c.if-is_lead_port.false)

pub returns-clause-partner : goal.returns-clause-partner
returns-clause-partner g c =
    let k = subst (λ (w : NamedView). IsKept w.set (g.L.LinkStore.links c.self.inside.store)) c.self.view_is c.self.invariant in
    let m : Member = record { id = c.args.agent; name = name_at c.args.self.now.names c.args.name.place; kind = c.requires.there.0 } in
    let free = subst (λ (w : NamedView). LeadsNone w.set (name_at w.names c.args.name.place)) c.self.view_is (none_led _ _ c.is_lead.result c.is_lead.ensures c.if-is_lead.false) in
    partner_there _ _ k m c.requires.there.1 c.far.result c.far.ensures c.in-End.end c.in-End.is _ c.port_of-partner.ensures.port free (iff_false c.is_lead_port.ensures c.if-is_lead_port.false)
