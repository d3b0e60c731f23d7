-- Agents of which two that are joined are each other's partners.
use Rattle.std.proofs.Common.{◌≡◌, ◌≢◌, ℕ, ◌+◌, ◌<◌, ◌≤◌, List, length, get_or, refl, sym, ap, subst, ◌∙◌, arith, Option, Some, None}
use Rattle.std.specs.Prelude.{slice_get}
use Rattle.std.proofs.lemmas.List.Elements.{All-get_or}
use Rattle.std.proofs.lemmas.Option.{get_or_from_slice_get, slice_get_within, slice_get-get_or}
use Rattle.ic_name.specs.Names.{Name}
use Rattle.ic_name.specs.Kinds.{arity}
use Rattle.ic_name.specs.declared.kinds.Kind.{Kind}
use Rattle.ic_name.specs.declared.kinds.Kind.TheVariants.{Gamma, Delta, Eps}
use Rattle.ic_name.specs.declared.ports.Port.TheVariants.{Of}
use Rattle.ic_theory.specs.Listed.{NetAgent, ListedNet, IsListing, agent_among, partner_at, shown}
use Rattle.ic_theory.proofs.Loose.{partners_back}
use Rattle.ic_net.specs.Sheets.{IsReached}
use Rattle.ic_text.specs.NetText.{partner_of}
use Rattle.ic_text.specs.Numbers.{AreWired}
use Rattle.ic_text.proofs.Places.{found_at, place_found}

-- those of a net are
pub net_wired : (l : ListedNet) → IsListing l → IsReached (shown l) → AreWired l.agents
net_wired l h r = record {
  in_order = h.in_order;
  whole = h.whole;
  both_ways = λ m n i j is.
      let back = partners_back r.start r.proper r.events r.fired (Of m i) (Of n j) (sym (r.net.partners (Of m i)) ∙ is) in
      (back.0, r.net.partners (Of n j) ∙ back.1);
}

-- an agent has at most three ports
few_ports : (k : Kind) → arity k + 1 ≤ 3
few_ports Gamma = omega arith
few_ports Delta = omega arith
few_ports Eps = omega arith

-- the agent at a port's other end, with its port there
pub record FarEnd (as' : List NetAgent) (a : NetAgent) (i : ℕ) (n : Name) (j : ℕ) : Type 0 where
  pub agent : NetAgent
  pub found : agent_among n as' ≡ Some agent
  pub name : agent.name ≡ n
  pub within : j < length agent.partners
  pub few : length agent.partners ≤ 3
  pub back : partner_of agent j ≡ Of a.name i
  pub apart : Of n j ≢ Of a.name i

module _ (as' : List NetAgent) (w : AreWired as') where
  -- an agent has at most three ports
  pub short : (k : ℕ) (a : NetAgent) → slice_get as' k ≡ Some a → length a.partners ≤ 3
  short k a at_k =
      let whole = All-get_or (λ (b : NetAgent). length b.partners ≡ arity b.kind + 1) as' k a (slice_get_within as' k a at_k) w.whole in
      let is : get_or as' k a ≡ a = get_or_from_slice_get as' k a a at_k in
      let exact : length a.partners ≡ arity a.kind + 1 = subst (λ (b : NetAgent). length b.partners ≡ arity b.kind + 1) is whole in
      omega (arith, exact, few_ports a.kind)

  -- the partner of an agent's port, as the agent is found by its name
  pub port_partner : (k i : ℕ) (a : NetAgent) → slice_get as' k ≡ Some a → i < length a.partners → partner_at i (agent_among a.name as') ≡ Some (partner_of a i)
  port_partner k i a at_k lt = ap (partner_at i) (found_at as' k a w.in_order at_k) ∙ slice_get-get_or a.partners i (Of a.name i) lt

  -- a port whose partner is a port of an agent is that port's partner
  pub far_end : (k i : ℕ) (a : NetAgent) → slice_get as' k ≡ Some a → i < length a.partners → (n : Name) (j : ℕ) → partner_of a i ≡ Of n j → FarEnd as' a i n j
  far_end k i a at_k lt n j is = go (agent_among n as') refl both.1
    where
      both : (Of n j ≢ Of a.name i) × (partner_at j (agent_among n as') ≡ Some (Of a.name i))
      both = w.both_ways a.name n i j (port_partner k i a at_k lt ∙ ap Some is)

      go : (o : Option NetAgent) → agent_among n as' ≡ o → partner_at j o ≡ Some (Of a.name i) → FarEnd as' a i n j
      go None e h = cc
      go (Some b) e h =
          let p = place_found n as' b e in
          record {
            agent = b;
            found = e;
            name = p.2;
            within = slice_get_within b.partners j (Of a.name i) h;
            few = short p.0 b p.1;
            back = get_or_from_slice_get b.partners j (Of a.name i) (Of b.name j) h;
            apart = both.0;
          }
