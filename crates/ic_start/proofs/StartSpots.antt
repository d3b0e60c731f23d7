-- Spots of a start, and the ports that they stand for.
use Rattle.std.proofs.Common.{◌≡◌, ℕ, sym, ap, ◌∙◌}
use Rattle.ic_name.specs.Names.{start_name}
use Rattle.ic_name.specs.declared.ids.Spot.{Spot}
use Rattle.ic_name.specs.declared.ids.Spot.TheVariants as spots
use Rattle.ic_start.specs.Starts.{IsStartSpot, port_at}

-- spots of a start that stand for one port are one
pub one_port : (a n : ℕ) (p q : Spot) → IsStartSpot a n p → IsStartSpot a n q → port_at p ≡ port_at q → p ≡ q
one_port a n (spots.Agent x i) (spots.Agent y j) h k e =
    let m : start_name x.slot ≡ start_name y.slot = cc in
    let s : x.slot ≡ y.slot = ap (λ u. u.start) m in
    let t : x.serial ≡ y.serial = h.1 ∙ sym k.1 in
    let d : i ≡ j = cc in
    λ u. spots.Agent (record { slot = s u; serial = t u }) (d u)
one_port a n (spots.Agent x i) (spots.Name j) h k e = cc
one_port a n (spots.Name i) (spots.Agent y j) h k e = cc
one_port a n (spots.Name i) (spots.Name j) h k e = cc
