-- The port at the far end of an agent's principal port, and whether the agent is consumed.
use Rattle.std.proofs.Common.{◌≡◌, ◌≢◌, ℕ, zero, suc, List, Some, refl, sym, ap, arith, subst, ◌∙◌}
use Rattle.ic_name.specs.declared.ids.Link.{Link}
use Rattle.ic_name.specs.declared.ids.Spot.{Spot}
use Rattle.ic_name.specs.declared.ids.Spot.TheVariants as spot
use Rattle.ic_name.specs.declared.ports.Port.{Port}
use Rattle.ic_name.specs.declared.ports.Port.TheVariants as port
use Rattle.ic_path.specs.Orders.{IsIn}
use Rattle.ic_link.specs.Links.{IsFar}
use Rattle.ic_link.specs.declared.store.Far.{Far}
use Rattle.ic_link.specs.declared.store.Far.TheVariants as far
use Rattle.ic_theory.specs.Sets.{consumed_times}
use Rattle.ic_roster.specs.Rosters.{Member, Stander}
use Rattle.ic_set.specs.Reading.{net_in, IsPortAt, IsLeadPort}
use Rattle.ic_set.specs.Sets.{IsKept}
use Rattle.ic_set.specs.Views.{SetView, standing}
use Rattle.ic_set.specs.Wires.{IsLooseSpot}
use Rattle.ic_set.proofs.ConsumedAgents.{zero_unless, led_far, far_led}
use Rattle.ic_set.proofs.LooseSpots.{loose_at}
use Rattle.ic_set.proofs.Partners.{LeadsNone}
use Rattle.ic_set.proofs.ReadNets.{end_spot, only_port}
use Rattle.ic_set.proofs.WirePaths.{far_there, far_leads}

module _ (v : SetView) (ls : List Link) (k : IsKept v ls) (m : Member) (there : IsIn m v.agents) (f : Far) (is : IsFar ls (spot.Agent m.id 0) f) where
  -- if the agent isn't consumed, its principal port is one of the net
  loose : consumed_times m.name (standing v) ≡ 0 → IsLooseSpot v (spot.Agent m.id 0) (port.Of m.name 0)
  loose z = loose_at v k.set m 0 there (omega arith) z

  -- if it is consumed and leads no event, the principal port of a lead stands at the far end
  lead_there : LeadsNone v m.name → consumed_times m.name (standing v) ≢ 0 → (q : Spot) × (x : Stander) × (f ≡ far.End q) × IsIn x v.events × IsPortAt v q (port.Of x.event.lead 0)
  lead_there free some =
      let n = led_far v ls k m there f is free some in
      (spot.Agent n.0.id 0, n.3.0, n.2, n.3.1, (n.0, n.1, refl, ap (λ y. port.Of y 0) n.3.2))

  -- if it leads no event, a port stands at the far end
  pub end_there : LeadsNone v m.name → (q : Spot) × (f ≡ far.End q) × ((p : Port) × IsPortAt v q p)
  end_there free = by (consumed_times m.name (standing v)) refl
    where
      by : (c : ℕ) → consumed_times m.name (standing v) ≡ c → (q : Spot) × (f ≡ far.End q) × ((p : Port) × IsPortAt v q p)
      by zero z = let r = far_there v ls k (spot.Agent m.id 0) (port.Of m.name 0) (loose z) f is in (r.0, r.1, r.2.0)
      by (suc c) z = let (q, x, e, i, at) = lead_there free (λ none. omega (arith, none, z)) in (q, e, (port.Of x.event.lead 0, at))

  module _ (q : Spot) (e : f ≡ far.End q) where
    -- so a port stands at this end
    pub port_there : LeadsNone v m.name → (p : Port) × IsPortAt v q p
    port_there free = let r = end_there free in subst (λ y. (p : Port) × IsPortAt v y p) (end_spot (sym r.1 ∙ e)) r.2

    module _ (p : Port) (at : IsPortAt v q p) where
      -- if that port is the principal port of a lead, the agent is consumed
      pub lead_consumes : IsLeadPort v p → consumed_times m.name (standing v) ≢ 0
      lead_consumes (x, i, h) = by q e at
        where
          by : (q : Spot) → f ≡ far.End q → IsPortAt v q p → consumed_times m.name (standing v) ≢ 0
          by (spot.Agent a j) e (n, at', s, its) = far_led v ls k m there f is n at' (cc) x i (cc)
          by (spot.Name j) e its = absurd cc

      module _ (free : LeadsNone v m.name) (none : IsLeadPort v p → ⊥) where
        -- if it isn't, and the agent leads no event, the agent isn't consumed
        pub not_consumed : consumed_times m.name (standing v) ≡ 0
        not_consumed = zero_unless (consumed_times m.name (standing v)) (λ some. (
            let (y, x, is_end, i, lead) = lead_there free some in
            let same = subst (λ z. IsPortAt v z (port.Of x.event.lead 0)) (end_spot (sym is_end ∙ e)) lead in
            none (x, i, sym (only_port v ls k q p at) ∙ only_port v ls k q (port.Of x.event.lead 0) same)))

        -- and the port is the partner of its principal port
        pub partner_there : (net_in v).partner (port.Of m.name 0) ≡ Some p
        partner_there = (far_leads v ls k (spot.Agent m.id 0) (port.Of m.name 0) (loose not_consumed) f is q e).1 p at
