-- Names that stand in a table which grows, and the places of names that stand there.
use Rattle.std.proofs.Common.{◌≡◌, ℕ, List, [], ◌∷◌, ◌++◌, map, refl, ap}
use Rattle.std.specs.Prelude.{All}
use Rattle.std.proofs.lemmas.List.Elements.{All-cons, All-head, All-tail, All-weaker}
use Rattle.ic_name.specs.Names.{Name}
use Rattle.ic_name.specs.declared.ports.Port.{Port}
use Rattle.ic_name.specs.declared.ports.Port.TheVariants as ports
use Rattle.ic_theory.specs.Listed.{NetAgent as Listed}
use Rattle.ic_net.specs.declared.agents.NetAgent.{NetAgent}
use Rattle.ic_net.specs.Sheets.{listed_agent}
use Rattle.ic_net.specs.Placed.{Stands, HasPortName, HasAgentNames}

module _ (ns ms : List Name) (kept : (n : Name) → Stands ns n → Stands ms n) where
  -- what stands in a table stands in one that has its names
  pub port_kept : (p : Port) → HasPortName ns p → HasPortName ms p
  port_kept (ports.Of n i) h = kept n h
  port_kept (ports.Name j) h = tt

  pub ports_kept : (ps : List Port) → All (HasPortName ns) ps → All (HasPortName ms) ps
  ports_kept ps = All-weaker (HasPortName ns) (HasPortName ms) port_kept ps

  pub agent_kept : (a : Listed) → HasAgentNames ns a → HasAgentNames ms a
  agent_kept a h = record { name = kept a.name h.name; partners = ports_kept a.partners h.partners }

-- the names of one agent more are entered
pub agent_entered : (old new : List Name) → ((n : Name) → Stands old n → Stands new n)
    → (all rest left : List (Name × NetAgent)) (a : Name × NetAgent) → rest ≡ a ∷ left → HasAgentNames new (listed_agent a)
    → ((ns : List Name) → ((n : Name) → Stands old n → Stands ns n) → All (HasAgentNames ns) (map listed_agent rest) → All (HasAgentNames ns) (map listed_agent all))
    → (ns : List Name) → ((n : Name) → Stands new n → Stands ns n) → All (HasAgentNames ns) (map listed_agent left) → All (HasAgentNames ns) (map listed_agent all)
agent_entered old new kept all rest left a is has more ns grows h =
    more ns (λ n s. grows n (kept n s)) (rw is (All-cons (HasAgentNames ns) (listed_agent a) (map listed_agent left) (agent_kept new ns grows (listed_agent a) has) h))

-- so is that of the partner of one free name more
pub free_entered : (old new : List Name) → ((n : Name) → Stands old n → Stands new n)
    → (all rest left : List (ℕ × Port)) (f : ℕ × Port) → rest ≡ f ∷ left → HasPortName new f.1
    → ((ns : List Name) → ((n : Name) → Stands old n → Stands ns n) → All (λ (x : ℕ × Port). HasPortName ns x.1) rest → All (λ (x : ℕ × Port). HasPortName ns x.1) all)
    → (ns : List Name) → ((n : Name) → Stands new n → Stands ns n) → All (λ (x : ℕ × Port). HasPortName ns x.1) left → All (λ (x : ℕ × Port). HasPortName ns x.1) all
free_entered old new kept all rest left f is has more ns grows h =
    more ns (λ n s. grows n (kept n s)) (rw is (All-cons (λ (x : ℕ × Port). HasPortName ns x.1) f left (port_kept new ns grows f.1 has) h))

-- an agent that is left, and those after it
pub agent_left : (ns : List Name) (rest left : List (Name × NetAgent)) (a : Name × NetAgent) → rest ≡ a ∷ left → All (HasAgentNames ns) (map listed_agent rest) → HasAgentNames ns (listed_agent a) × All (HasAgentNames ns) (map listed_agent left)
agent_left ns rest left a is h =
    let all = rw is at h in
    (All-head (HasAgentNames ns) (listed_agent a) (map listed_agent left) all, All-tail (HasAgentNames ns) (listed_agent a) (map listed_agent left) all)

-- what is shown of a list and one more
pub shown_more : {X Z : Type 0} (f : X → Z) (xs : List X) (x : X) (zs : List Z) → map f (xs ++ x ∷ []) ++ zs ≡ map f xs ++ f x ∷ zs
shown_more f [] x zs = refl
shown_more f (y ∷ ys) x zs = ap (λ ws. f y ∷ ws) (shown_more f ys x zs)
