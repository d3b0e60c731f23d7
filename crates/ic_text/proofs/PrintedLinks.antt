-- Which links the start of a printed text has: one for each port of an agent, for each wire between free names, and
-- for each ring.
use Rattle.std.proofs.Common.{◌≡◌, ℕ, zero, suc, ◌+◌, true, List, ◌++◌, length, ◌⊎◌, inl, inr, sym, ap, subst, ◌∙◌, arith, Some}
use Rattle.std.specs.Ordering.{nat_cmp, is_lt}
use Rattle.std.specs.Cmp.Lexicographic.{slice_cmp}
use Rattle.ic_name.specs.Names.{Name}
use Rattle.ic_name.specs.declared.ports.Port.{Port}
use Rattle.ic_name.specs.declared.ports.Port.TheVariants.{Of}
use Rattle.ic_name.specs.declared.ports.Port.TheVariants as port
use Rattle.ic_theory.specs.Orders.{IsIn}
use Rattle.ic_theory.proofs.Picks.{pick-map, in-cons_cases, none_in}
use Rattle.ic_theory.specs.Listed.{ListedNet, shown}
use Rattle.ic_theory.specs.Starts.{Start}
use Rattle.ic_text.specs.Grammar.{port_of}
use Rattle.ic_text.specs.NetText.{name_text, partner_of, port_label, label_of, numbered, numbered_wires, free_wires}
use Rattle.ic_text.specs.Printable.{IsPrintable}
use Rattle.ic_text.specs.Reread.{line_of, reread_port}
use Rattle.ic_text.proofs.Elements.{in_before, map_cases}
use Rattle.ic_text.proofs.Owners.{owner_of, shown_port, shown_within, listed_port}
use Rattle.ic_text.proofs.PrintedEntries.{Texts}
use Rattle.ic_text.proofs.FreeNames.{FreeWire, free_wire_of, free_wire_there}
use Rattle.ic_text.proofs.PrintedJoins.{agent_joins, free_joins, ring_joins, printed_joins}
use Rattle.ic_text.proofs.AgentLines.{join_there, agent_join}
use Rattle.ic_text.proofs.PrintedStart.{number_in, IsPrintedStart}
use Rattle.ic_theory.proofs.InLists.{in_behind, in-append_cases}

-- the port of a text in the start
abbrev pub text_port : Start → List ℕ → Port
text_port s x = port.Name (number_in s x)

-- the label of a port with a partner
abbrev pub text_at : List (List ℕ) → ListedNet → Port → Port → List ℕ
text_at names l p q = label_of names (numbered_wires l.agents) p q

-- a link from a port of an agent to its label
pub record AgentPart (names : List (List ℕ)) (l : ListedNet) (s : Start) (j : Port × Port) : Type 0 where
  pub name : Name
  pub number : ℕ
  pub partner : Port
  pub partners : (shown l).partner (Of name number) ≡ Some partner
  pub is : j ≡ (reread_port names l s (Of name number), text_port s (text_at names l (Of name number) partner))

-- a link between two free names
pub record FreePart (names : List (List ℕ)) (l : ListedNet) (s : Start) (j : Port × Port) : Type 0 where
  pub texts : Texts
  pub wire : FreeWire names l texts
  pub is : j ≡ (text_port s texts.0, text_port s texts.1)

-- a link of a ring
pub record RingPart (s : Start) (j : Port × Port) : Type 0 where
  pub number : ℕ
  pub is : j ≡ (text_port s (numbered number), text_port s (numbered number))

-- the links of rings
pub ring_part : (s : Start) (k n : ℕ) {j : Port × Port} → IsIn j (ring_joins (number_in s) k n) → RingPart s j
ring_part s k zero i = absurd (none_in i)
ring_part s k (suc n) {j} i = go (in-cons_cases i) (λ c. ring_part s (k + 1) n c)
  where
    go : (j ≡ (text_port s (numbered k), text_port s (numbered k))) ⊎ IsIn j (ring_joins (number_in s) (k + 1) n) → (IsIn j (ring_joins (number_in s) (k + 1) n) → RingPart s j) → RingPart s j
    go (inl e) ih = record { number = k; is = e }
    go (inr c) ih = ih c

module _ (names : List (List ℕ)) (l : ListedNet) (ok : IsPrintable names l) (s : Start) where
  -- those of agents
  pub agent_part : {j : Port × Port} → IsIn j (agent_joins (number_in s) names (numbered_wires l.agents) 0 l.agents) → AgentPart names l s j
  agent_part i =
      let r = agent_join (number_in s) names (numbered_wires l.agents) 0 l.agents ok.listing.in_order i in
      let line : 0 + line_of l.agents r.agent.name ≡ line_of l.agents r.agent.name = omega arith in
      record {
        name = r.agent.name;
        number = r.number;
        partner = partner_of r.agent r.number;
        partners = listed_port l ok.listing r.agent r.number r.listed (shown_within r.agent.kind r.number r.shown);
        is = r.is ∙ ap (λ (m : ℕ). (port_of m r.number, text_port s (port_label names (numbered_wires l.agents) r.agent r.number))) line;
      }

  -- those of wires between free names
  pub free_part : {j : Port × Port} → IsIn j (free_joins (number_in s) (free_wires names l.frees)) → FreePart names l s j
  free_part i =
      let r = map_cases (λ (x : Texts). (text_port s x.0, text_port s x.1)) (free_wires names l.frees) i in
      record { texts = r.0; wire = free_wire_of names l ok r.1; is = r.2 }

  -- the links of agents, of wires between free names, and of rings
  parts : {j : Port × Port} → IsIn j (printed_joins (number_in s) names l) → AgentPart names l s j ⊎ (FreePart names l s j ⊎ RingPart s j)
  parts {j} i = go (in-append_cases (agent_joins (number_in s) names (numbered_wires l.agents) 0 l.agents) i)
    where
      others : IsIn j (free_joins (number_in s) (free_wires names l.frees)) ⊎ IsIn j (ring_joins (number_in s) (length (numbered_wires l.agents)) l.rings) → FreePart names l s j ⊎ RingPart s j
      others (inl c) = inl (free_part c)
      others (inr c) = inr (ring_part s (length (numbered_wires l.agents)) l.rings c)

      go : IsIn j (agent_joins (number_in s) names (numbered_wires l.agents) 0 l.agents)
          ⊎ IsIn j (free_joins (number_in s) (free_wires names l.frees) ++ ring_joins (number_in s) (length (numbered_wires l.agents)) l.rings)
          → AgentPart names l s j ⊎ (FreePart names l s j ⊎ RingPart s j)
      go (inl c) = inl (agent_part c)
      go (inr c) = inr (others (in-append_cases (free_joins (number_in s) (free_wires names l.frees)) c))

module _ (names : List (List ℕ)) (l : ListedNet) (ok : IsPrintable names l) (s : Start) (is : IsPrintedStart names l s) where
  -- each link is one of these
  pub link_parts : {j : Port × Port} → IsIn j s.joins → AgentPart names l s j ⊎ (FreePart names l s j ⊎ RingPart s j)
  link_parts {j} i = parts names l ok s (subst (λ js. IsIn j js) is.joins i)

  -- each port of an agent has its link
  pub agent_link : (n : Name) (i : ℕ) (q : Port) → (shown l).partner (Of n i) ≡ Some q → IsIn (reread_port names l s (Of n i), text_port s (text_at names l (Of n i) q)) s.joins
  agent_link n i q e =
      let o = owner_of l ok.listing n i q e in
      let ws : List Port = numbered_wires l.agents in
      let there_is = join_there (number_in s) names ws 0 l.agents n o.agent i o.found (shown_port o.agent.kind i o.within) in
      let line : 0 + line_of l.agents n ≡ line_of l.agents n = omega arith in
      let label : port_label names ws o.agent i ≡ text_at names l (Of n i) q = ap (λ (m : Name). label_of names ws (Of m i) (partner_of o.agent i)) o.name ∙ ap (label_of names ws (Of n i)) o.partner in
      let same : ◌≡◌ {A = Port × Port} (port_of (0 + line_of l.agents n) i, text_port s (port_label names ws o.agent i)) (reread_port names l s (Of n i), text_port s (text_at names l (Of n i) q)) = λ u. (port_of (line u) i, text_port s (label u)) in
      subst (λ js. IsIn (reread_port names l s (Of n i), text_port s (text_at names l (Of n i) q)) js) (sym is.joins)
      (in_before (free_joins (number_in s) (free_wires names l.frees) ++ ring_joins (number_in s) (length ws) l.rings) (subst (λ j. IsIn j (agent_joins (number_in s) names ws 0 l.agents)) same there_is))

  -- each wire between free names has its link
  pub free_link : (j m : ℕ) → (shown l).partner (port.Name j) ≡ Some (port.Name m) → is_lt (slice_cmp nat_cmp (name_text names j) (name_text names m)) ≡ true
      → IsIn (text_port s (name_text names j), text_port s (name_text names m)) s.joins
  free_link j m e less =
      let ws : List Port = numbered_wires l.agents in
      let there_is = free_wire_there names l ok j m e less in
      let link = in_before (ring_joins (number_in s) (length ws) l.rings) (_, pick-map (λ (x : Texts). (text_port s x.0, text_port s x.1)) there_is.1) in
      subst (λ js. IsIn (text_port s (name_text names j), text_port s (name_text names m)) js) (sym is.joins) (in_behind (agent_joins (number_in s) names ws 0 l.agents) link)
