-- Partners stay partners: the trail from a port leads over its link, and over that of its partner.
use Rattle.std.proofs.Common.{◌≡◌, ℕ, ◌≤◌, true, List, [], ◌⊎◌, inl, inr, refl, sym, ap, ◌∙◌, arith, Some, None}
use Rattle.std.specs.Ordering.{nat_cmp, is_lt}
use Rattle.std.specs.Cmp.Lexicographic.{slice_cmp}
use Rattle.ic_name.specs.Names.{Name, start_name}
use Rattle.ic_name.specs.declared.ports.Port.{Port}
use Rattle.ic_name.specs.declared.ports.Port.TheVariants.{Of}
use Rattle.ic_name.specs.declared.ports.Port.TheVariants as port
use Rattle.ic_theory.specs.Links.{degree, forth, back, IsSlim}
use Rattle.ic_theory.specs.Trails.{Reaches}
use Rattle.ic_theory.specs.Born.{Link}
use Rattle.ic_theory.specs.Firings.{nothing}
use Rattle.ic_theory.specs.Listed.{ListedNet, shown}
use Rattle.ic_theory.specs.Nets.{net_of}
use Rattle.ic_theory.specs.Starts.{Start, net_shape, start_links}
use Rattle.ic_theory.specs.Wires.{IsLoose}
use Rattle.ic_theory.proofs.Counts.{slim}
use Rattle.ic_theory.proofs.Loose.{partner_is}
use Rattle.ic_text.proofs.LinkEnds.{ends}
use Rattle.ic_text.specs.NetText.{name_text, numbered_wires}
use Rattle.ic_text.specs.Printable.{IsPrintable}
use Rattle.ic_text.specs.Reread.{line_of, reread_port}
use Rattle.ic_text.proofs.Owners.{owner_of}
use Rattle.ic_text.proofs.LabelFacts.{label_both}
use Rattle.ic_text.proofs.FreeNames.{less_either}
use Rattle.ic_text.proofs.AgentLines.{line_one}
use Rattle.ic_text.proofs.PairEnds.{hit_self, end_counted}
use Rattle.ic_text.proofs.Reached.{one_step, two_steps, far_is, placed_there}
use Rattle.ic_text.proofs.PrintedStart.{IsPrintedStart}
use Rattle.ic_text.proofs.PrintedLinks.{text_port, text_at, agent_link, free_link}
use Rattle.ic_text.proofs.AgentDegrees.{joins_ends, agent_loose, agent_degree}
use Rattle.ic_text.proofs.FreeDegrees.{free_few}

module _ (names : List (List ℕ)) (l : ListedNet) (ok : IsPrintable names l) (s : Start) (is : IsPrintedStart names l s) where
  -- a link is at a free name that has a partner
  free_some : (j : ℕ) (q : Port) → (shown l).partner (port.Name j) ≡ Some q → 1 ≤ ends (text_port s (name_text names j)) s.joins
  free_some j (Of n i) e =
      let y = text_port s (name_text names j) in
      let link = agent_link names l ok s is n i (port.Name j) (ok.wired (port.Name j) (Of n i) e).1 in
      omega (arith, end_counted y link.1, hit_self y)
  free_some j (port.Name m) e = go (less_either names l ok j m e)
    where
      go : (is_lt (slice_cmp nat_cmp (name_text names j) (name_text names m)) ≡ true) ⊎ (is_lt (slice_cmp nat_cmp (name_text names m) (name_text names j)) ≡ true) → 1 ≤ ends (text_port s (name_text names j)) s.joins
      go (inl less) = let y = text_port s (name_text names j) in omega (arith, end_counted y (free_link names l ok s is j m e less).1, hit_self y)
      go (inr less) = let y = text_port s (name_text names j) in omega (arith, end_counted y (free_link names l ok s is m j (ok.wired (port.Name j) (port.Name m) e).1 less).1, hit_self y)

  -- each port with a partner has one link
  pub port_degree : (p q : Port) → (shown l).partner p ≡ Some q → degree net_shape (start_links s) (reread_port names l s p) ≡ 1
  port_degree (Of n i) q e = agent_degree names l ok s is n i q e
  port_degree (port.Name j) q e =
      let some = free_some j q e in
      omega (arith, joins_ends names l ok s is (text_port s (name_text names j)), some, free_few names l ok s is j q e some q refl)

  -- and is loose
  pub port_loose : (p q : Port) → (shown l).partner p ≡ Some q → IsLoose s [] (reread_port names l s p)
  port_loose (Of n i) q e = agent_loose names l ok s is n i q e
  port_loose (port.Name j) q e = port_degree (port.Name j) q e

  -- ports of agents stay apart
  ports_apart : (n m : Name) (i j : ℕ) → (shown l).partner (Of n i) ≡ Some (Of m j) → (shown l).partner (Of m j) ≡ Some (Of n i) → reread_port names l s (Of n i) ≡ reread_port names l s (Of m j) → Of m j ≡ Of n i
  ports_apart n m i j e f h =
      let o = owner_of l ok.listing n i (Of m j) e in
      let p = owner_of l ok.listing m j (Of n i) f in
      let a : start_name (line_of l.agents n) ≡ start_name (line_of l.agents m) = cc in
      let b : i ≡ j = cc in
      let c : n ≡ m = line_one l.agents n m o.agent p.agent o.found p.found (ap (λ (x : Name). x.start) a) in
      λ u. Of (sym c u) (sym b u)

  -- a trail leads from each port to its partner
  reach : (p q : Port) → (shown l).partner p ≡ Some q → Reaches net_shape (start_links s) (reread_port names l s p) (reread_port names l s q)
  reach (Of n i) (Of m j) e =
      let w = ok.wired (Of n i) (Of m j) e in
      let k = placed_there None 0 (agent_link names l ok s is n i (Of m j) e).1 in
      let k' = placed_there None 0 (agent_link names l ok s is m j (Of n i) w.1).1 in
      let label : text_at names l (Of n i) (Of m j) ≡ text_at names l (Of m j) (Of n i) = label_both names (numbered_wires l.agents) n m i j w.0 in
      two_steps net_shape k.listed k'.listed (λ f. w.0 (ports_apart n m i j e w.1 (sym k.left ∙ ap (λ (x : Link). x.a) f ∙ k'.left)))
      (forth k.left k.right) (back (k'.right ∙ ap (text_port s) (sym label)) k'.left) (port_degree (Of m j) (Of n i) w.1)
  reach (Of n i) (port.Name j) e =
      let k = placed_there None 0 (agent_link names l ok s is n i (port.Name j) e).1 in
      one_step net_shape k.listed (forth k.left k.right) (port_degree (port.Name j) (Of n i) (ok.wired (Of n i) (port.Name j) e).1)
  reach (port.Name j) (Of n i) e =
      let f = (ok.wired (port.Name j) (Of n i) e).1 in
      let k = placed_there None 0 (agent_link names l ok s is n i (port.Name j) f).1 in
      one_step net_shape k.listed (back k.right k.left) (port_degree (Of n i) (port.Name j) f)
  reach (port.Name j) (port.Name m) e = go (less_either names l ok j m e)
    where
      f : (shown l).partner (port.Name m) ≡ Some (port.Name j)
      f = (ok.wired (port.Name j) (port.Name m) e).1

      go : (is_lt (slice_cmp nat_cmp (name_text names j) (name_text names m)) ≡ true) ⊎ (is_lt (slice_cmp nat_cmp (name_text names m) (name_text names j)) ≡ true)
          → Reaches net_shape (start_links s) (reread_port names l s (port.Name j)) (reread_port names l s (port.Name m))
      go (inl less) = let k = placed_there None 0 (free_link names l ok s is j m e less).1 in one_step net_shape k.listed (forth k.left k.right) (port_degree (port.Name m) (port.Name j) f)
      go (inr less) = let k = placed_there None 0 (free_link names l ok s is m j f less).1 in one_step net_shape k.listed (back k.right k.left) (port_degree (port.Name m) (port.Name j) f)

  -- no port has more than two links
  pub start_slim : IsSlim net_shape (start_links s)
  start_slim = slim s is.proper [] (λ n. omega arith)

  -- partners are partners in the start's net
  pub reread_partners : (p q : Port) → (shown l).partner p ≡ Some q → (net_of s []).partner (reread_port names l s p) ≡ Some (reread_port names l s q)
  reread_partners p q e = partner_is s is.proper [] nothing (reread_port names l s p) (port_loose p q e) ∙ ap Some (far_is net_shape start_slim (port_degree p q e) (reach p q e))
