-- The wire at a port of the net, read off the links by ids, and the events that made it.
use Rattle.std.proofs.Common.{◌≡◌, ◌≢◌, ◌↔◌, true, List, ◌∷◌, map, Some, refl, sym, ap, arith, subst, ◌∙◌}
use Rattle.ic_name.specs.Events.{Event}
use Rattle.ic_name.specs.declared.ids.EventId.{EventId}
use Rattle.ic_name.specs.declared.ids.Link.{Link}
use Rattle.ic_name.specs.declared.ids.LinkId.{LinkId}
use Rattle.ic_name.specs.declared.ids.MakerId.TheVariants as maker
use Rattle.ic_name.specs.declared.ids.Spot.{Spot}
use Rattle.ic_name.specs.declared.ids.Spot.TheVariants as spots
use Rattle.ic_name.specs.declared.ports.Port.{Port}
use Rattle.ic_path.specs.Links.{degree}
use Rattle.ic_path.specs.Orders.{Alike, IsIn}
use Rattle.ic_path.specs.Trails.{Trail}
use Rattle.ic_path.proofs.Alikes.{alike_back}
use Rattle.ic_path.proofs.Orders.{degree-alike, trail-alike, stops_at}
use Rattle.ic_path.proofs.Walks.{determined}
use Rattle.ic_link.specs.Links.{shape, Joins, IsFar}
use Rattle.ic_link.specs.declared.store.Far.{Far}
use Rattle.ic_link.specs.declared.store.Far.TheVariants as far
use Rattle.ic_theory.specs.Born.{born_links}
use Rattle.ic_theory.specs.Sets.{links}
use Rattle.ic_theory.specs.Starts.{Start, start_links, net_shape}
use Rattle.ic_theory.specs.Wires.{IsLoose, IsWire}
use Rattle.ic_theory.proofs.AnyOrder.{net-alike}
use Rattle.ic_theory.proofs.Counts.{slim}
use Rattle.ic_theory.proofs.Future.{made_alike}
use Rattle.ic_theory.proofs.Loose.{partners_back, partner_wire, wire_partner}
use Rattle.ic_theory.proofs.Ranks.{sound_order}
use Rattle.ic_cause.specs.Makers.{AreMakers}
use Rattle.ic_cause.specs.Naming.{port_of, link_of}
use Rattle.ic_cause.proofs.ByPorts.{trail_held, trail_named}
use Rattle.ic_cause.proofs.FarSpots.{loose-alike}
use Rattle.ic_cause.proofs.OnePort.{HasSpot}
use Rattle.ic_cause.proofs.PathMakers.{Maker, maker_by_id, maker_by_name, maker_held}
use Rattle.ic_cause.proofs.SameEnds.{degree_is, degree_named}
use Rattle.ic_roster.specs.Rosters.{Stander}
use Rattle.ic_set.specs.Orders.{AreInOrder}
use Rattle.ic_set.specs.Reading.{net_in, IsPortAt}
use Rattle.ic_set.specs.Removal.{Stands}
use Rattle.ic_set.specs.Sets.{IsStandingSet, IsKept}
use Rattle.ic_set.specs.Views.{SetView, standing}
use Rattle.ic_set.specs.Wires.{IsLooseSpot, IsWireMaker}
use Rattle.ic_set.proofs.ReadNets.{LeadsTo, end_spot, one_end, only_port, path_to, loose_far}

-- a wire is one in any order of the events
wire_alike : (s : Start) {es fs : List Event} (p q : Port) → Alike es fs → IsWire s es p q → IsWire s fs p q
wire_alike s p q a w =
    let t = trail-alike net_shape w.path.trail (made_alike (born_links s.profile) (start_links s) a) in
    record {
      path = record { first = w.path.first; others = w.path.others; left_over = t.0; trail = t.1 };
      from_loose = loose-alike s p a w.from_loose;
      to_loose = loose-alike s q a w.to_loose;
    }

module _ (v : SetView) (set : IsStandingSet v) where
  -- a wire joins a port and its partner
  pub partner_joined : (p q : Port) → (net_in v).partner p ≡ Some q → IsWire v.start (standing v) p q
  partner_joined p q e =
      let o = sound_order v.start set.proper (standing v) set.sound in
      wire_alike v.start p q (alike_back o.1) (partner_wire v.start set.proper o.0 o.2 p q (sym ((net-alike v.start set.proper set.sound o.1).partners p) ∙ e))

  -- and a port's partner is at the other end of its wire
  pub joined_partner : (p q : Port) → IsWire v.start (standing v) p q → (net_in v).partner p ≡ Some q
  joined_partner p q w =
      let o = sound_order v.start set.proper (standing v) set.sound in
      (net-alike v.start set.proper set.sound o.1).partners p ∙ wire_partner v.start set.proper o.0 o.2 p q (wire_alike v.start p q o.1 w)

  -- the ends of a wire are two
  ends_apart : (p q : Port) → IsWire v.start (standing v) p q → q ≢ p
  ends_apart p q w =
      let o = sound_order v.start set.proper (standing v) set.sound in
      (partners_back v.start set.proper o.0 o.2 p q (wire_partner v.start set.proper o.0 o.2 p q (wire_alike v.start p q o.1 w))).0

module _ (v : SetView) (ls : List Link) (k : IsKept v ls) where
  -- the spot of a port is held
  spot_held : (q : Spot) (p : Port) → IsPortAt v q p → HasSpot k.naming q
  spot_held (spots.Agent a i) p (m, there, s, e) = subst (λ x. k.naming.has_agent x ≡ true) s (k.named.agents m there).0
  spot_held (spots.Name j) p e = refl

module _ (v : SetView) (ls : List Link) (k : IsKept v ls) (spot : Spot) (p : Port) (at : IsLooseSpot v spot p) where
  held : HasSpot k.naming spot
  held = spot_held v ls k spot p at.0

  -- it stands for the port
  same : port_of k.naming spot ≡ p
  same = only_port v ls k spot p at.0

  loose : IsLoose v.start (standing v) (port_of k.naming spot)
  loose = subst (IsLoose v.start (standing v)) (sym same) at.1

  -- one link ends there
  pub one_link : degree shape ls spot ≡ 1
  one_link = degree_is k.naming v.start (standing v) ls k.shows spot held ∙ one_end v k.set (port_of k.naming spot) loose

  -- the path from there leads to the port's partner
  pub far_there : (f : Far) → IsFar ls spot f → (q : Spot) × (f ≡ far.End q) × LeadsTo v p q
  far_there f is = let r = loose_far v ls k spot f held loose is in (r.0, r.1, subst (λ x. LeadsTo v x r.0) same r.2)

  pub far_leads : (f : Far) → IsFar ls spot f → (q : Spot) → f ≡ far.End q → LeadsTo v p q
  far_leads f is q e = let r = far_there f is in subst (LeadsTo v p) (end_spot (sym r.1 ∙ e)) r.2

  module _ (q : Spot) (ids : List LinkId) (j : Joins ls spot ids q) where
    -- the wire along the path
    wire_there : (far : Port) × IsWire v.start (standing v) p far
    wire_there =
        let leads = subst (λ x. LeadsTo v x q) same (path_to v ls k spot q ids held loose j) in
        (leads.0.0, partner_joined v k.set p leads.0.0 (leads.1 leads.0.0 leads.0.1))

    -- each wire from the port goes along its links
    wire_links : (far : Port) (w : IsWire v.start (standing v) p far) → w.path.first ∷ w.path.others ≡ map (link_of k.naming) j.links
    wire_links far w =
        let all = links v.start (standing v) in
        let thin = slim v.start k.set.proper (standing v) k.set.sound.apart in
        let first = one_end v k.set p at.1 in
        let last = one_end v k.set far w.to_loose in
        let t = trail_named k.naming v.start (standing v) ls k.shows j.trail in
        let e = trail_held k.naming k.shows.held held j.trail in
        let named = subst (λ x. Trail net_shape all x (map (link_of k.naming) j.links) (port_of k.naming q) t.0) same t.1 in
        let stops : degree net_shape t.0 (port_of k.naming q) ≡ 0 = sym (degree-alike net_shape t.2 (port_of k.naming q)) ∙ degree_named k.naming k.shows.apart j.rest q e.1 e.0 ∙ j.stops in
        (determined net_shape thin (omega (arith, first)) w.path.trail (stops_at net_shape p far thin (omega (arith, last)) (ends_apart v k.set p far w) w.path.trail) named stops).0

    -- the makers of the wire are those of the links of the path
    wire_maker : (c : Event) → IsWireMaker v.start (standing v) p c → Maker k.naming ids c
    wire_maker c m = maker_by_id k.naming v.start (standing v) ls k.shows ids j c m.link (subst (λ xs. IsIn m.link xs) (wire_links m.far m.wire) m.on_path) m.made

    maker_wire : (c : Event) → Maker k.naming ids c → IsWireMaker v.start (standing v) p c
    maker_wire c m =
        let w = wire_there in
        let l = maker_by_name k.naming v.start (standing v) ls k.shows ids j c m in
        record { far = w.0; wire = w.1; link = l.0; on_path = subst (λ xs. IsIn l.0 xs) (sym (wire_links w.0 w.1)) l.1; made = l.2 }

    -- they stand
    pub makers_stand : (makers : List EventId) → AreMakers ids makers → (d : EventId) → IsIn d makers → Stands v d
    makers_stand makers are d i = k.named.no_other_events d (maker_held k.naming v.start (standing v) ls k.shows ids j d (are.only d i))

    -- an event is among them if and only if it made the wire
    pub makers_made : (makers : List EventId) → AreMakers ids makers → (x : Stander) → IsIn x v.events → IsIn x.id makers ↔ IsWireMaker v.start (standing v) p x.event
    makers_made makers are x i = (
      λ m. (let d = are.only x.id m in maker_wire x.event (x.id, d.0, d.1, d.2, its.0, its.1)),
      λ m. (
          let d = wire_maker x.event m in
          let one : d.0 ≡ x.id = k.shows.apart.events d.0 x.id d.4 its.0 (d.5 ∙ sym its.1) in
          are.each x.id (d.1, d.2, d.3 ∙ ap (λ c. maker.Event c) one)),
    )
      where
        its : (k.naming.has_event x.id ≡ true) × (k.naming.event x.id ≡ x.event)
        its = k.named.events x i

-- events in order with another property that the same standing events have
pub in_order_so : (v : SetView) {P Q : Stander → Type 0} (ids : List EventId) → ((x : Stander) → IsIn x v.events → P x ↔ Q x) → AreInOrder v P ids → AreInOrder v Q ids
in_order_so v ids same h = record {
  order = h.order;
  each = record {
    each = λ x i. h.each.each x (i.0, (same x i.0).1 i.1);
    only = λ x i. (let p = h.each.only x i in (p.0, (same x p.0).0 p.1));
    once = h.each.once;
  };
  canonical = h.canonical;
  named = h.named;
}
