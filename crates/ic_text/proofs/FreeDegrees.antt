-- A free name has one link in the start of a printed text.
use Rattle.std.proofs.Common.{◌≡◌, ℕ, ◌+◌, ◌≤◌, true, cond, List, ◌∷◌, [], ◌++◌, length, ◌⊎◌, inl, inr, refl, sym, ap, subst, ◌∙◌, arith, eqb, Some}
use Rattle.std.specs.declared.cmp.Ordering.{Ordering}
use Rattle.std.specs.declared.cmp.Ordering.TheVariants.{Less, Equal, Greater}
use Rattle.std.specs.Ordering.{nat_cmp, is_lt, ordering_reverse}
use Rattle.std.specs.Cmp.Lexicographic.{slice_cmp, nat_list_cmp_total}
use Rattle.std.proofs.lemmas.Bool.{eq-eqb}
use Rattle.ic_name.specs.Names.{Name}
use Rattle.ic_name.specs.declared.ports.Port.{Port}
use Rattle.ic_name.specs.declared.ports.Port.TheVariants.{Of}
use Rattle.ic_name.specs.declared.ports.Port.TheVariants as port
use Rattle.ic_theory.specs.Links.{degree}
use Rattle.ic_theory.specs.Listed.{ListedNet, shown}
use Rattle.ic_theory.specs.Starts.{Start, net_shape, start_links}
use Rattle.ic_text.proofs.LinkEnds.{hit, ends}
use Rattle.ic_text.specs.NetText.{name_text, numbered_wires, free_wires}
use Rattle.ic_text.specs.Printable.{IsPrintable}
use Rattle.ic_text.specs.Reread.{reread_port}
use Rattle.ic_text.proofs.PrintedEntries.{Texts, total}
use Rattle.ic_text.proofs.FreeNames.{FreeWire, less_either, free_most}
use Rattle.ic_text.proofs.PrintedJoins.{agent_joins, free_joins, ring_joins}
use Rattle.ic_text.proofs.PairEnds.{at_pair, hit_self, hit_most, ends_most, ends_none, ends-append}
use Rattle.ic_text.proofs.PrintedStart.{number_in, IsPrintedStart}
use Rattle.ic_text.proofs.PrintedLinks.{text_port, text_at, AgentPart, agent_part, FreePart, RingPart, ring_part, link_parts}
use Rattle.ic_text.proofs.AgentDegrees.{joins_ends, agent_degree}
use Rattle.ic_text.proofs.FreeEnds.{free_port, wire_ends, IsAtWire, agent_at, wire_at, ring_at}

-- no text is both less than another one and greater
both_less : (x y : List ℕ) → is_lt (slice_cmp nat_cmp x y) ≡ true → is_lt (slice_cmp nat_cmp y x) ≡ true → ⊥
both_less x y h k = go (slice_cmp nat_cmp x y) (slice_cmp nat_cmp y x) h k (nat_list_cmp_total.antisymm x y)
  where
    go : (r s : Ordering) → is_lt r ≡ true → is_lt s ≡ true → r ≡ ordering_reverse s → ⊥
    go Less Less a b c = cc
    go Less Equal a b c = cc
    go Less Greater a b c = cc
    go Equal s a b c = cc
    go Greater s a b c = cc

-- the links between free names, summed
free_total : (s : Start) (p : Port) (xs : List Texts) → ends p (free_joins (number_in s) xs) ≡ total (λ x. at_pair p (wire_ends s x)) xs
free_total s p [] = refl
free_total s p (x ∷ xs) = ap (λ (n : ℕ). at_pair p (wire_ends s x) + n) (free_total s p xs)

module _ (names : List (List ℕ)) (l : ListedNet) (ok : IsPrintable names l) (s : Start) (is : IsPrintedStart names l s)
    (j : ℕ) (q : Port) (partner : (shown l).partner (port.Name j) ≡ Some q) (some : 1 ≤ ends (free_port names s j) s.joins) where
  -- where the name's partner is a port of an agent, no more links are at the name than at that port
  agent_most : (n : Name) (i : ℕ) → q ≡ Of n i → ends (free_port names s j) s.joins ≤ 1
  agent_most n i e = omega (arith, ends_most (free_port names s j) (reread_port names l s (Of n i)) s.joins (λ pair c. by_part pair (link_parts names l ok s is c)), joins_ends names l ok s is (reread_port names l s (Of n i)), one)
    where
      back : (shown l).partner (Of n i) ≡ Some (port.Name j)
      back = subst (λ z. (shown l).partner z ≡ Some (port.Name j)) e (ok.wired (port.Name j) q partner).1

      one : degree net_shape (start_links s) (reread_port names l s (Of n i)) ≡ 1
      one = agent_degree names l ok s is n i (port.Name j) back

      by_agent : (pair : Port × Port) (r : AgentPart names l s pair) → (at_pair (free_port names s j) pair ≡ 0) ⊎ (q ≡ Of r.name r.number) → at_pair (free_port names s j) pair ≤ at_pair (reread_port names l s (Of n i)) pair
      by_agent pair r (inl z) = omega (arith, z)
      by_agent pair r (inr f) =
          let same : Of r.name r.number ≡ Of n i = sym f ∙ e in
          let left : hit (reread_port names l s (Of n i)) pair.0 ≡ 1 = ap (λ (x : Port × Port). hit (reread_port names l s (Of n i)) x.0) r.is ∙ ap (λ z. hit (reread_port names l s (Of n i)) (reread_port names l s z)) same ∙ hit_self (reread_port names l s (Of n i)) in
          let none : at_pair (free_port names s j) pair ≡ hit (free_port names s j) (text_port s (text_at names l (Of r.name r.number) r.partner)) = ap (at_pair (free_port names s j)) r.is ∙ omega arith in
          omega (arith, left, none, hit_most (free_port names s j) (text_port s (text_at names l (Of r.name r.number) r.partner)))

      by_wire : (pair : Port × Port) (r : FreePart names l s pair) → IsAtWire names l s j q r.wire → at_pair (free_port names s j) pair ≡ 0
      by_wire pair r (inl z) = ap (at_pair (free_port names s j)) r.is ∙ z
      by_wire pair r (inr (h, inl a)) = let f : Of n i ≡ port.Name r.wire.other = sym e ∙ a.1 in cc
      by_wire pair r (inr (h, inr a)) = let f : Of n i ≡ port.Name r.wire.near = sym e ∙ a.1 in cc

      by_part : (pair : Port × Port) → AgentPart names l s pair ⊎ (FreePart names l s pair ⊎ RingPart s pair) → at_pair (free_port names s j) pair ≤ at_pair (reread_port names l s (Of n i)) pair
      by_part pair (inl r) = by_agent pair r (agent_at names l ok s is j q partner some r)
      by_part pair (inr (inl r)) = omega (arith, by_wire pair r (wire_at names l ok s is j q partner some r.wire))
      by_part pair (inr (inr r)) = omega (arith, ring_at names l ok s is j q partner some r)

  -- where it is a free name, their wire's link alone is at it
  wire_most : (m : ℕ) → q ≡ port.Name m → ends (free_port names s j) s.joins ≤ 1
  wire_most m e =
      let ws : List Port = numbered_wires l.agents in
      let agents = agent_joins (number_in s) names ws 0 l.agents in
      let frees = free_joins (number_in s) (free_wires names l.frees) in
      let loops = ring_joins (number_in s) (length ws) l.rings in
      let p = free_port names s j in
      let a : ends p agents ≡ 0 = ends_none p agents (λ pair c. by_agent pair (agent_part names l ok s c)) in
      let b : ends p frees ≤ 1 = omega (arith, free_total s p (free_wires names l.frees), wires_few) in
      let c : ends p loops ≡ 0 = ends_none p loops (λ pair d. ring_at names l ok s is j q partner some (ring_part s (length ws) l.rings d)) in
      omega (arith, ap (ends p) is.joins, ends-append p agents (frees ++ loops), ends-append p frees loops, a, b, c)
    where
      by_agent : (pair : Port × Port) → AgentPart names l s pair → at_pair (free_port names s j) pair ≡ 0
      by_agent pair r = go (agent_at names l ok s is j q partner some r)
        where
          go : (at_pair (free_port names s j) pair ≡ 0) ⊎ (q ≡ Of r.name r.number) → at_pair (free_port names s j) pair ≡ 0
          go (inl z) = z
          go (inr f) = let g : port.Name m ≡ Of r.name r.number = sym e ∙ f in cc

      -- the wire is written by the name of the lesser text
      by_lesser : (is_lt (slice_cmp nat_cmp (name_text names j) (name_text names m)) ≡ true) ⊎ (is_lt (slice_cmp nat_cmp (name_text names m) (name_text names j)) ≡ true)
          → total (λ x. at_pair (free_port names s j) (wire_ends s x)) (free_wires names l.frees) ≤ 1
      by_lesser (inl less) = free_most names l ok (λ x. at_pair (free_port names s j) (wire_ends s x)) j (λ x w. go x w (wire_at names l ok s is j q partner some w))
        where
          go : (x : Texts) (w : FreeWire names l x) → IsAtWire names l s j q w → at_pair (free_port names s j) (wire_ends s x) ≤ cond (eqb j w.near) 1 0
          go x w (inl z) = omega (arith, z)
          go x w (inr (h, inl a)) = rw (eq-eqb j w.near a.0) (omega (arith, h))
          go x w (inr (h, inr a)) =
              let k : port.Name m ≡ port.Name w.near = sym e ∙ a.1 in
              let f : m ≡ w.near = cc in
              absurd (both_less (name_text names j) (name_text names m) less (rw (a.0, f) w.ordered))
      by_lesser (inr less) = free_most names l ok (λ x. at_pair (free_port names s j) (wire_ends s x)) m (λ x w. go x w (wire_at names l ok s is j q partner some w))
        where
          go : (x : Texts) (w : FreeWire names l x) → IsAtWire names l s j q w → at_pair (free_port names s j) (wire_ends s x) ≤ cond (eqb m w.near) 1 0
          go x w (inl z) = omega (arith, z)
          go x w (inr (h, inl a)) =
              let k : port.Name m ≡ port.Name w.other = sym e ∙ a.1 in
              let f : m ≡ w.other = cc in
              absurd (both_less (name_text names m) (name_text names j) less (rw (a.0, f) w.ordered))
          go x w (inr (h, inr a)) =
              let k : port.Name m ≡ port.Name w.near = sym e ∙ a.1 in
              let f : m ≡ w.near = cc in
              rw (eq-eqb m w.near f) (omega (arith, h))

      wires_few : total (λ x. at_pair (free_port names s j) (wire_ends s x)) (free_wires names l.frees) ≤ 1
      wires_few = by_lesser (less_either names l ok j m (partner ∙ ap Some e))

  -- so one link at most is at the name
  pub free_few : (r : Port) → q ≡ r → ends (free_port names s j) s.joins ≤ 1
  free_few (Of n i) e = agent_most n i e
  free_few (port.Name m) e = wire_most m e
