-- The partner of a loose port, read off the links by spots.
use Rattle.std.proofs.Common.{◌≡◌, List, Some, sym, ap, arith, ◌∙◌}
use Rattle.ic_name.specs.Events.{Event}
use Rattle.ic_name.specs.declared.ids.Link.{Link}
use Rattle.ic_name.specs.declared.ids.LinkId.{LinkId}
use Rattle.ic_name.specs.declared.ids.Spot.{Spot}
use Rattle.ic_name.specs.declared.ports.Port.{Port}
use Rattle.ic_name.specs.declared.ports.Port.TheVariants as port
use Rattle.ic_path.specs.Orders.{Alike}
use Rattle.ic_path.specs.Links.{IsSlim}
use Rattle.ic_path.proofs.Ends.{reaches_far, reaches_one}
use Rattle.ic_path.proofs.Alikes.{alike_then}
use Rattle.ic_path.proofs.Orders.{degree-alike}
use Rattle.ic_link.specs.Links.{Joins}
use Rattle.ic_theory.specs.Born.{born_agents, born_links}
use Rattle.ic_theory.specs.Firings.{IsFired}
use Rattle.ic_theory.specs.Nets.{net_of}
use Rattle.ic_theory.specs.Sets.{links}
use Rattle.ic_theory.specs.Sound.{IsSound}
use Rattle.ic_theory.specs.Starts.{Start, start_agents, start_links, net_shape, IsProper}
use Rattle.ic_theory.specs.Wires.{IsLoose}
use Rattle.ic_theory.proofs.Counts.{slim}
use Rattle.ic_theory.proofs.Future.{made_alike, in_alike, fired_apart}
use Rattle.ic_theory.proofs.Loose.{loose_degree, partner_is}
use Rattle.ic_theory.proofs.Ranks.{consumed-alike, sound_order}
use Rattle.ic_theory.proofs.AnyOrder.{net-alike}
use Rattle.ic_cause.specs.Naming.{Naming, port_of}
use Rattle.ic_cause.specs.Shown.{Shows}
use Rattle.ic_cause.proofs.OnePort.{HasSpot}
use Rattle.ic_cause.proofs.ByPorts.{reaches_named}

-- a port that is loose in a set is so in any order of it
pub loose-alike : (s : Start) {es fs : List Event} (p : Port) → Alike es fs → IsLoose s es p → IsLoose s fs p
loose-alike s (port.Of n i) a h = (h.0, in_alike h.1 (made_alike born_agents (start_agents s) a), h.2, sym (consumed-alike n a) ∙ h.3)
loose-alike s (port.Name j) a h = sym (degree-alike net_shape (made_alike (born_links s.profile) (start_links s) a) (port.Name j)) ∙ h

-- links show a set in any order
shows-alike : (n : Naming) (s : Start) {es fs : List Event} {ls : List Link} → Alike es fs → Shows n s es ls → Shows n s fs ls
shows-alike n s a h = record { apart = h.apart; held = h.held; alike = alike_then h.alike (made_alike (born_links s.profile) (start_links s) a) }

-- a path from the spot of a loose port leads to that of its partner, after a firing
fired_partner : (n : Naming) (s : Start) (es : List Event) (ls : List Link) {p q : Spot} {ids : List LinkId} → IsProper s → IsFired s es → Shows n s es ls
    → HasSpot n p → IsLoose s es (port_of n p) → Joins ls p ids q → (net_of s es).partner (port_of n p) ≡ Some (port_of n q)
fired_partner n s es ls {p} {q} ok f h k loose j =
    let thin : IsSlim net_shape (links s es) = slim s ok es (fired_apart s f) in
    let d = loose_degree s ok es f (port_of n p) loose in
    partner_is s ok es f (port_of n p) loose
    ∙ ap Some (reaches_one net_shape thin (omega (arith, d)) (reaches_far net_shape (links s es) (port_of n p) thin (omega (arith, d))) (reaches_named n s es ls h k j))

-- and in any sound set
pub sound_partner : (n : Naming) (s : Start) (es : List Event) (ls : List Link) (p q : Spot) (ids : List LinkId) → IsProper s → IsSound s es → Shows n s es ls
    → HasSpot n p → IsLoose s es (port_of n p) → Joins ls p ids q → (net_of s es).partner (port_of n p) ≡ Some (port_of n q)
sound_partner n s es ls p q ids ok sound h k loose j =
    let o = sound_order s ok es sound in
    (net-alike s ok sound o.1).partners (port_of n p) ∙ fired_partner n s o.0 ls ok o.2 (shows-alike n s o.1 h) k (loose-alike s (port_of n p) o.1 loose) j
