-- The agents' lines of the net of a printed text are those of the text.
use Rattle.std.proofs.Common.{◌≡◌, ℕ, ◌≤◌, List, ◌++◌, map, flat_map, refl, sym, ap, ◌∙◌, arith, Some}
use Rattle.std.specs.Prelude.{codes, option_map, position, unwrap_or}
use Rattle.std.proofs.lemmas.List.Folds.{flat_map-map}
use Rattle.ic_name.specs.Names.{Name}
use Rattle.ic_name.specs.Kinds.{arity}
use Rattle.ic_name.specs.Same.{same_port}
use Rattle.ic_name.specs.declared.kinds.Kind.{Kind}
use Rattle.ic_name.specs.declared.kinds.Kind.TheVariants.{Gamma, Delta, Eps}
use Rattle.ic_name.specs.declared.ports.Port.{Port}
use Rattle.ic_name.specs.declared.ports.Port.TheVariants.{Of}
use Rattle.ic_name.specs.declared.ports.Port.TheVariants as port
use Rattle.ic_theory.specs.Orders.{IsIn}
use Rattle.ic_theory.specs.Listed.{NetAgent, ListedNet, shown}
use Rattle.ic_theory.specs.Starts.{Start}
use Rattle.ic_text.specs.NetText.{partner_of, numbered_wires, numbered, label_of, port_label, letter, arguments, agent_line}
use Rattle.ic_text.proofs.Wires.{wire_between}
use Rattle.ic_text.specs.Reread.{reread_port}
use Rattle.ic_text.proofs.Owners.{listed_port}
use Rattle.ic_text.proofs.Pointwise.{flat_map_agrees}
use Rattle.ic_text.proofs.RereadListing.{IsRereadListing}
use Rattle.ic_text.proofs.RereadAgents.{image, same_agents}
use Rattle.ic_text.proofs.RereadOrder.{IsFound}
use Rattle.ic_text.proofs.RereadWires.{end_of, partner_end, wire_kept, wire_found, partner_kept, position_kept, same_wires}

module _ (names : List (List ℕ)) (l m : ListedNet) (s : Start) (is : IsRereadListing names l s m) where
  -- what is written at a port
  label_kept : (n : Name) (i : ℕ) (q : Port) → (shown l).partner (Of n i) ≡ Some q
      → label_of s.names (map (reread_port names l s) (numbered_wires l.agents)) (reread_port names l s (Of n i)) (reread_port names l s q) ≡ label_of names (numbered_wires l.agents) (Of n i) q
  label_kept n i (port.Name j) e = is.texts j (Of n i) (is.printed.wired (Of n i) (port.Name j) e).1
  label_kept n i (Of x j) e =
      let ws : List Port = numbered_wires l.agents in
      let from : IsFound l.agents (Of n i) = end_of names l s is.printed (Of n i) (Of x j) e in
      let to = partner_end names l s is.printed (Of n i) (Of x j) e in
      let w = wire_between (Of n i) x j in
      let kept = wire_kept names l s is.printed (Of n i) (Of x j) from to ∙ ap (option_map (reread_port names l s)) w.is in
      let place = position_kept names l s is.printed w.wire (wire_found names l s is.printed (Of n i) (Of x j) w.wire from to w.is) in
      ap (λ o. numbered (unwrap_or (position (same_port (unwrap_or o (reread_port names l s (Of n i)))) (map (reread_port names l s) ws)) 0)) kept
      ∙ ap (λ o. numbered (unwrap_or o 0)) place
      ∙ sym (ap (λ o. numbered (unwrap_or (position (same_port (unwrap_or o (Of n i))) ws) 0)) w.is)

  -- at a port of an agent's line
  port_kept : (a : NetAgent) (i : ℕ) → IsIn a l.agents → i ≤ arity a.kind → port_label s.names (numbered_wires m.agents) (image names l s a) i ≡ port_label names (numbered_wires l.agents) a i
  port_kept a i k le =
      ap (λ ws. port_label s.names ws (image names l s a) i) (same_wires names l m s is)
      ∙ ap (label_of s.names (map (reread_port names l s) (numbered_wires l.agents)) (reread_port names l s (Of a.name i))) (partner_kept names l s is.printed a i)
      ∙ label_kept a.name i (partner_of a i) (listed_port l is.printed.listing a i k le)

  -- the parentheses of an agent
  arguments_kept : (a : NetAgent) (k : Kind) → ((i : ℕ) → i ≤ arity k → port_label s.names (numbered_wires m.agents) (image names l s a) i ≡ port_label names (numbered_wires l.agents) a i)
      → arguments s.names (numbered_wires m.agents) (image names l s a) k ≡ arguments names (numbered_wires l.agents) a k
  arguments_kept a Gamma h = let one = h 1 (omega arith) in let two = h 2 (omega arith) in λ u. codes "(" ++ one u ++ codes "," ++ two u ++ codes ")"
  arguments_kept a Delta h = let one = h 1 (omega arith) in let two = h 2 (omega arith) in λ u. codes "(" ++ one u ++ codes "," ++ two u ++ codes ")"
  arguments_kept a Eps h = refl

  -- the line of an agent
  line_kept : (a : NetAgent) → IsIn a l.agents → agent_line s.names (numbered_wires m.agents) (image names l s a) ≡ agent_line names (numbered_wires l.agents) a
  line_kept a k =
      let inside = arguments_kept a a.kind (λ i le. port_kept a i k le) in
      let principal = port_kept a 0 k (omega arith) in
      λ u. letter a.kind ++ inside u ++ codes " = " ++ principal u ++ codes ";\n"

  -- all lines
  pub same_lines : flat_map (agent_line s.names (numbered_wires m.agents)) m.agents ≡ flat_map (agent_line names (numbered_wires l.agents)) l.agents
  same_lines =
      ap (flat_map (agent_line s.names (numbered_wires m.agents))) (same_agents names l m s is)
      ∙ flat_map-map (agent_line s.names (numbered_wires m.agents)) (image names l s) l.agents
      ∙ flat_map_agrees _ _ l.agents line_kept
