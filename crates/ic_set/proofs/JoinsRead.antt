-- Which agents are joined, read off the far ends of the links by ids.
use Rattle.std.proofs.Common.{◌≡◌, ◌≢◌, ℕ, zero, suc, Bool, true, false, List, map, ap, refl, sym, arith, subst, ◌∙◌}
use Rattle.ic_name.specs.declared.ids.AgentId.{AgentId}
use Rattle.ic_name.specs.declared.ids.Link.{Link}
use Rattle.ic_name.specs.declared.ids.Spot.{Spot}
use Rattle.ic_name.specs.declared.ids.Spot.TheVariants.{Agent}
use Rattle.ic_path.specs.FarEnds.{far}
use Rattle.ic_path.specs.Links.{degree, IsSlim}
use Rattle.ic_path.specs.Orders.{IsIn}
use Rattle.ic_path.proofs.Ends.{reaches_far}
use Rattle.ic_link.specs.Links.{shape, IsFar}
use Rattle.ic_link.specs.declared.store.Far.{Far}
use Rattle.ic_link.specs.declared.store.Far.TheVariants as found
use Rattle.ic_link.proofs.FarSpots.{end_far}
use Rattle.ic_link.proofs.FirstJoins.{one_agent}
use Rattle.ic_roster.specs.Rosters.{Member}
use Rattle.ic_set.specs.Pairs.{AreJoined}
use Rattle.ic_set.specs.Sets.{IsKept}
use Rattle.ic_set.specs.Views.{SetView, standing}
use Rattle.ic_set.proofs.Partners.{LeadsNone, joined_far, far_joined}
use Rattle.ic_set.proofs.SlimSets.{slim_shown, none_unheld}

module _ (v : SetView) (ls : List Link) (k : IsKept v ls) where
  -- no spot has more than two link ends
  pub kept_slim : IsSlim shape ls
  kept_slim = slim_shown k.naming v.start (standing v) ls k.set.proper k.set.sound k.shows

  -- the path from a spot with one link end to its far end
  path_from : (p : Spot) → degree shape ls p ≡ 1 → IsFar ls p (found.End (far shape ls p))
  path_from p e = let r = reaches_far shape ls p kept_slim (omega (arith, e)) in (e, map (λ l. l.id) r.links, record { links = r.links; rest = r.rest; trail = r.trail; stops = r.stops; named = refl })

  -- a spot is bare, an end or a joint
  told : (p : Spot) → (f : Far) × IsFar ls p f
  told p = by (degree shape ls p) refl
    where
      by : (n : ℕ) → degree shape ls p ≡ n → (f : Far) × IsFar ls p f
      by zero e = (found.Bare, e)
      by (suc zero) e = (found.End (far shape ls p), path_from p e)
      by (suc (suc zero)) e = (found.Joint, e)
      by (suc (suc (suc n))) e = let low = kept_slim p in absurd (omega (arith, low, e))

  -- the principal ports of agents that are joined are the two ends of a path
  pub joined_reads : (a b : AgentId) → AreJoined v a b → (degree shape ls (Agent a 0) ≡ 1) × (far shape ls (Agent a 0) ≡ Agent b 0)
  joined_reads a b j =
      let t = told (Agent a 0) in
      let h : IsFar ls (Agent a 0) (found.End (Agent b 0)) = subst (IsFar ls (Agent a 0)) (joined_far v ls k a b t.0 j t.1) t.1 in
      let one = h.0 in
      (one, sym (end_far ls kept_slim (Agent a 0) (omega (arith, one)) (Agent b 0) h))

  -- and where they are, and neither agent leads an event, the agents are joined
  pub reads_joined : (m n : Member) → IsIn m v.agents → IsIn n v.agents → LeadsNone v m.name → LeadsNone v n.name → degree shape ls (Agent m.id 0) ≡ 1 → far shape ls (Agent m.id 0) ≡ Agent n.id 0
      → AreJoined v m.id n.id
  reads_joined m n i j free there one h = far_joined v ls k m n (found.End (far shape ls (Agent m.id 0))) i j free there (path_from (Agent m.id 0) one) (ap (λ q. found.End q) h)

  -- an agent is joined to one other
  pub joined_once : (a b c : AgentId) → AreJoined v a b → AreJoined v a c → b ≡ c
  joined_once a b c j h = one_agent (sym (joined_reads a b j).1 ∙ (joined_reads a c h).1)

  -- no link ends at a port of an agent that isn't there
  pub absent_bare : (a : AgentId) (i : ℕ) → ((m : Member) → IsIn m v.agents → m.id ≢ a) → degree shape ls (Agent a i) ≡ 0
  absent_bare a i none = by (k.naming.has_agent a) refl
    where
      by : (t : Bool) → k.naming.has_agent a ≡ t → degree shape ls (Agent a i) ≡ 0
      by true e = let m = k.named.no_other_agents a e in absurd (none m.0 m.1 m.2)
      by false e = none_unheld k.naming ls (Agent a i) k.shows.held e
