-- Agents of a roster that are lost under some ids.
use Rattle.std.proofs.Common.{List, ◌++◌, inl, inr, refl, sym, ap, subst}
use Rattle.ic_name.specs.declared.ids.AgentId.{AgentId}
use Rattle.ic_path.specs.Orders.{IsIn, IsOnce}
use Rattle.ic_path.proofs.Alikes.{alike_back, alike-in}
use Rattle.ic_path.proofs.EachOnce.{once_alike}
use Rattle.ic_path.proofs.InLists.{in-map, map_cases, in-append_cases}
use Rattle.ic_path.proofs.Picks.{pick_before}
use Rattle.ic_roster.specs.Rosters.{Member, HaveOwnNames, Loses}
use Rattle.ic_set.specs.Removal.{LosesEach}
use Rattle.ic_set.proofs.Namings.{own_names_alike}
use Rattle.ic_set.proofs.SmallerRosters.{in_back, fewer_names}

-- agents with names of their own are there once
own_once : (ms : List Member) → HaveOwnNames ms → IsOnce ms
own_once ms own m rest k i = own.slots m m rest k i refl

-- where agents have names of their own, those under the ids go and the others are left
pub lost_each : (ids : List AgentId) (old new : List Member) → HaveOwnNames old → HaveOwnNames new → Loses ids old new → LosesEach ids old new
lost_each ids old new own own' lost gone left under split =
    once_alike left new (own_once left (fewer_names gone left split own)) (own_once new own') stays was
  where
    not_gone : (m : Member) → IsIn m left → IsIn m.id ids → ⊥
    not_gone m i j =
        let g = map_cases (λ (n : Member). n.id) gone (subst (λ ds. IsIn m.id ds) (sym under) j) in
        (own_names_alike split own).slots g.0 m (g.1.0 ++ left) (pick_before left g.1.1) (in_back g.1.0 i) (ap (λ (d : AgentId). d.slot) (sym g.2))

    stays : (m : Member) → IsIn m left → IsIn m new
    stays m i = (lost m).1 (alike-in (alike_back split) (in_back gone i), not_gone m i)

    was : (m : Member) → IsIn m new → IsIn m left
    was m i =
        let h = (lost m).0 i in
        elim (in-append_cases gone (alike-in split h.0)) [ inl j ↦ absurd (h.1 (subst (λ ds. IsIn m.id ds) under (in-map (λ (n : Member). n.id) j))) | inr k ↦ k ]
