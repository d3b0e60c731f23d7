-- Trails by spots are trails by ports.
use Rattle.std.proofs.Common.{List, map, refl, sym, subst, ◌∙◌}
use Rattle.ic_name.specs.Events.{Event}
use Rattle.ic_name.specs.declared.ids.Link.{Link}
use Rattle.ic_name.specs.declared.ids.LinkId.{LinkId}
use Rattle.ic_name.specs.declared.ids.Spot.{Spot}
use Rattle.ic_path.specs.Orders.{Alike}
use Rattle.ic_path.specs.Links.{Leads, forth, back}
use Rattle.ic_path.specs.Trails.{Trail, stays, goes, Reaches}
use Rattle.ic_path.proofs.Picks.{in_picked}
use Rattle.ic_path.proofs.Orders.{degree-alike, trail-alike}
use Rattle.ic_path.proofs.Renamed.{trail-map}
use Rattle.ic_link.specs.Links.{shape, Joins}
use Rattle.ic_theory.specs.Born.{Link as NetLink}
use Rattle.ic_theory.specs.Starts.{Start, net_shape}
use Rattle.ic_theory.specs.Sets.{links}
use Rattle.ic_cause.specs.Naming.{Naming, IsHeld, port_of, link_of}
use Rattle.ic_cause.specs.Shown.{Shows}
use Rattle.ic_cause.proofs.OnePort.{HasSpot, AreHeld, one_port}
use Rattle.ic_cause.proofs.SameEnds.{degree_named}

-- a held link leads to a held spot
leads_held : (n : Naming) {l : Link} {p q : Spot} → IsHeld n l → Leads shape l p q → HasSpot n q
leads_held n h (forth e f) = subst (HasSpot n) f h.right
leads_held n h (back e f) = subst (HasSpot n) f h.left

-- a trail of held links leads to a held spot, and leaves held links
pub trail_held : (n : Naming) {ls ss rest : List Link} {p q : Spot} → AreHeld n ls → HasSpot n p → Trail shape ls p ss q rest → HasSpot n q × AreHeld n rest
trail_held n h k stays = (k, h)
trail_held n h k (goes i w t) = trail_held n (λ m j. h m (in_picked i j)) (leads_held n (h _ (_, i)) w) t

module _ (n : Naming) (s : Start) (es : List Event) (ls : List Link) (h : Shows n s es ls) where
  -- a trail by spots is one by ports, along the links by names
  pub trail_named : {ss rest : List Link} {p q : Spot} → Trail shape ls p ss q rest
      → (left : List NetLink) × Trail net_shape (links s es) (port_of n p) (map (link_of n) ss) (port_of n q) left × Alike (map (link_of n) rest) left
  trail_named t = trail-alike net_shape (trail-map shape net_shape (port_of n) (link_of n) (λ l. refl) (λ l. refl) (HasSpot n) (one_port n h.apart) t) h.alike

  -- where it can't go on by spots it can't by ports
  pub reaches_named : {p q : Spot} {ids : List LinkId} → HasSpot n p → Joins ls p ids q → Reaches net_shape (links s es) (port_of n p) (port_of n q)
  reaches_named {q = q} k j =
      let t = trail_named j.trail in
      let e = trail_held n h.held k j.trail in
      record {
        links = map (link_of n) j.links;
        rest = t.0;
        trail = t.1;
        stops = sym (degree-alike net_shape t.2 (port_of n q)) ∙ degree_named n h.apart j.rest q e.1 e.0 ∙ j.stops;
      }
