-- The spots of an agent that isn't consumed.
use Rattle.std.proofs.Common.{◌≡◌, ℕ, ◌≤◌, inl, inr, refl, sym, ap, subst}
use Rattle.ic_name.specs.Kinds.{arity}
use Rattle.ic_name.specs.Names.{Name}
use Rattle.ic_name.specs.declared.ids.AgentId.{AgentId}
use Rattle.ic_name.specs.declared.ids.Spot.TheVariants as spot
use Rattle.ic_name.specs.declared.kinds.Kind.{Kind}
use Rattle.ic_name.specs.declared.ports.Port.TheVariants as port
use Rattle.ic_path.specs.Orders.{IsIn}
use Rattle.ic_path.proofs.Alikes.{alike-in}
use Rattle.ic_path.proofs.InLists.{in-map}
use Rattle.ic_theory.specs.Sets.{consumed_times}
use Rattle.ic_theory.specs.Wires.{IsLoose}
use Rattle.ic_roster.specs.Rosters.{Member}
use Rattle.ic_set.specs.Sets.{IsStandingSet}
use Rattle.ic_set.specs.Views.{SetView, standing, agent_of}
use Rattle.ic_set.specs.Wires.{IsLooseSpot}
use Rattle.ic_set.proofs.ConsumedAgents.{member_of}
use Rattle.ic_set.proofs.Namings.{same_member}

module _ (v : SetView) (set : IsStandingSet v) where
  -- the agent of a loose port is there
  pub loose_member : (n : Name) (i : ℕ) → IsLoose v.start (standing v) (port.Of n i) → (m : Member) × IsIn m v.agents × (m.name ≡ n) × (i ≤ arity m.kind) × (consumed_times n (standing v) ≡ 0)
  loose_member n i (k, there, few, zero) = let m = member_of v set n k there in (m.0, m.1, m.2, subst (λ x. i ≤ arity x) (sym m.3) few, zero)

  -- it has the port, and isn't consumed
  pub loose_entry : (m : Member) (i : ℕ) → IsIn m v.agents → IsLoose v.start (standing v) (port.Of m.name i) → (i ≤ arity m.kind) × (consumed_times m.name (standing v) ≡ 0)
  loose_entry m i there loose =
      let l = loose_member m.name i loose in
      (subst (λ (x : Member). i ≤ arity x.kind) (same_member v.agents l.0 m set.own_names l.1 there (inr l.2)) l.3, l.4)

  -- each port of such an agent is loose
  pub loose_at : (m : Member) (i : ℕ) → IsIn m v.agents → i ≤ arity m.kind → consumed_times m.name (standing v) ≡ 0 → IsLooseSpot v (spot.Agent m.id i) (port.Of m.name i)
  loose_at m i there few zero = ((m, there, refl, refl), (m.kind, alike-in set.agents (in-map agent_of there), few, zero))

  -- an agent that is found by its name and then by its id is one
  pub entry_named : (a : AgentId) (n m : Name) (k l : Kind) → IsIn (record { id = a; name = n; kind = k }) v.agents → IsIn (record { id = a; name = m; kind = l }) v.agents → IsIn (record { id = a; name = n; kind = l }) v.agents × (m ≡ n)
  entry_named a n m k l i j =
      let same : m ≡ n = ap (λ (x : Member). x.name) (same_member v.agents (record { id = a; name = m; kind = l }) (record { id = a; name = n; kind = k }) set.own_names j i (inl refl)) in
      (subst (λ x. IsIn (record { id = a; name = x; kind = l }) v.agents) same j, same)
