-- Link ends and rings are counted alike by spots and by ports.
use Rattle.std.proofs.Common.{◌≡◌, List, refl, sym, map, ◌∙◌}
use Rattle.ic_name.specs.Events.{Event}
use Rattle.ic_name.specs.declared.ids.Link.{Link}
use Rattle.ic_name.specs.declared.ids.Spot.{Spot}
use Rattle.ic_path.specs.Links.{degree}
use Rattle.ic_path.specs.Rings.{rings}
use Rattle.ic_path.proofs.Alikes.{alike_back}
use Rattle.ic_path.proofs.Orders.{degree-alike, slim-alike, rings-alike}
use Rattle.ic_path.proofs.Renamed.{degree-map, rings-map}
use Rattle.ic_link.specs.Links.{shape}
use Rattle.ic_theory.specs.Starts.{Start, IsProper, net_shape}
use Rattle.ic_theory.specs.Sets.{links}
use Rattle.ic_theory.specs.Sound.{IsSound}
use Rattle.ic_theory.proofs.Counts.{slim}
use Rattle.ic_cause.specs.Naming.{Naming, TellsApart, port_of, link_of}
use Rattle.ic_cause.specs.Shown.{Shows}
use Rattle.ic_cause.proofs.OnePort.{HasSpot, AreHeld, one_port, all_in}

-- a held spot has as many ends of held links as its port has by names
pub degree_named : (n : Naming) → TellsApart n → (ls : List Link) (p : Spot) → AreHeld n ls → HasSpot n p → degree net_shape (map (link_of n) ls) (port_of n p) ≡ degree shape ls p
degree_named n apart ls p h k = degree-map shape net_shape (port_of n) (link_of n) (λ l. refl) (λ l. refl) (HasSpot n) (one_port n apart) ls p (all_in n ls h) k

-- and held links have as many rings
pub rings_named : (n : Naming) → TellsApart n → (ls : List Link) → AreHeld n ls → rings net_shape (map (link_of n) ls) ≡ rings shape ls
rings_named n apart ls h = rings-map shape net_shape (port_of n) (link_of n) (λ l. refl) (λ l. refl) (HasSpot n) (one_port n apart) ls (all_in n ls h)

module _ (n : Naming) (s : Start) (es : List Event) (ls : List Link) (h : Shows n s es ls) where
  -- a held spot has as many link ends as its port
  pub degree_is : (p : Spot) → HasSpot n p → degree shape ls p ≡ degree net_shape (links s es) (port_of n p)
  degree_is p k = sym (degree_named n h.apart ls p h.held k) ∙ degree-alike net_shape h.alike (port_of n p)

  -- there are as many rings
  pub rings_are : IsProper s → IsSound s es → rings shape ls ≡ rings net_shape (links s es)
  rings_are ok sound =
      sym (rings_named n h.apart ls h.held)
      ∙ rings-alike net_shape h.alike (slim-alike net_shape (alike_back h.alike) (slim s ok es sound.apart))
