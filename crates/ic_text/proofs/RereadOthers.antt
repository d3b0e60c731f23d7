-- No other ports have partners in the start of a printed text.
use Rattle.std.proofs.Common.{◌≡◌, ℕ, ◌+◌, ◌≤◌, List, [], ◌⊎◌, inl, inr, sym, ap, ◌∙◌, arith, Some}
use Rattle.ic_name.specs.Names.{Name, start_name}
use Rattle.ic_name.specs.Kinds.{arity}
use Rattle.ic_name.specs.declared.kinds.Kind.{Kind}
use Rattle.ic_name.specs.declared.ports.Port.{Port}
use Rattle.ic_name.specs.declared.ports.Port.TheVariants.{Of}
use Rattle.ic_name.specs.declared.ports.Port.TheVariants as port
use Rattle.ic_theory.specs.Links.{degree}
use Rattle.ic_theory.specs.Orders.{IsIn}
use Rattle.ic_theory.specs.Born.{named}
use Rattle.ic_theory.specs.Firings.{nothing}
use Rattle.ic_theory.specs.Listed.{ListedNet, shown}
use Rattle.ic_theory.specs.Nets.{net_of}
use Rattle.ic_theory.specs.Starts.{Start, net_shape, start_links}
use Rattle.ic_theory.specs.Wires.{IsLoose}
use Rattle.ic_theory.proofs.Loose.{has_partner}
use Rattle.ic_text.proofs.LinkEnds.{ends}
use Rattle.ic_text.specs.NetText.{numbered, partner_of}
use Rattle.ic_text.specs.Printable.{IsPrintable}
use Rattle.ic_text.specs.Reread.{line_of, reread_port}
use Rattle.ic_text.proofs.Owners.{listed_port}
use Rattle.ic_text.proofs.LabelFacts.{label_at, numbered_reserved}
use Rattle.ic_text.proofs.PrintedEntries.{Texts}
use Rattle.ic_text.proofs.AgentLines.{start_agent}
use Rattle.ic_text.proofs.PairEnds.{End, end_there}
use Rattle.ic_text.proofs.PrintedStart.{IsPrintedStart}
use Rattle.ic_text.proofs.PrintedLinks.{text_port, text_at, AgentPart, FreePart, RingPart, link_parts}
use Rattle.ic_text.proofs.AgentDegrees.{joins_ends, text_low}

-- a port of the net with a partner, of which this is the port in the start
abbrev pub IsRereadPort : List (List ℕ) → ListedNet → Start → Port → Type 0
IsRereadPort names l s x = (p : Port) × (q : Port) × ((shown l).partner p ≡ Some q) × (x ≡ reread_port names l s p)

module _ (names : List (List ℕ)) (l : ListedNet) (ok : IsPrintable names l) (s : Start) (is : IsPrintedStart names l s) where
  -- a port of an agent of the start is one of the net
  agent_port : (n : Name) (i : ℕ) (k : Kind) → IsIn (n, k) (named start_name 0 s.kinds) → i ≤ arity k → IsRereadPort names l s (Of n i)
  agent_port n i k c le =
      let r = start_agent 0 l.agents ok.listing.in_order (rw is.kinds at c) in
      let name : n ≡ start_name (0 + line_of l.agents r.agent.name) = ap (λ (x : Name × Kind). x.0) r.is in
      let kind : k ≡ r.agent.kind = ap (λ (x : Name × Kind). x.1) r.is in
      let line : 0 + line_of l.agents r.agent.name ≡ line_of l.agents r.agent.name = omega arith in
      let name' : n ≡ start_name (line_of l.agents r.agent.name) = name ∙ ap start_name line in
      (Of r.agent.name i, partner_of r.agent i, listed_port l ok.listing r.agent i r.listed (rw kind at le), λ u. Of (name' u) i)

  -- a number's name has no link, or two
  not_numbered : (x : ℕ) (k : ℕ) → degree net_shape (start_links s) (port.Name x) ≡ 1 → port.Name x ≡ text_port s (numbered k) → ⊥
  not_numbered x k d e =
      let one : degree net_shape (start_links s) (text_port s (numbered k)) ≡ 1 = ap (degree net_shape (start_links s)) (sym e) ∙ d in
      let some : 1 ≤ ends (text_port s (numbered k)) s.joins = omega (arith, one, joins_ends names l ok s is (text_port s (numbered k))) in
      let a = is.unreserved (numbered k) (text_low names l ok s is (numbered k) some) one in
      let b = numbered_reserved k in
      cc

  -- the name of a label is a free one
  label_port : (x : ℕ) (n : Name) (i : ℕ) (q : Port) → degree net_shape (start_links s) (port.Name x) ≡ 1 → (shown l).partner (Of n i) ≡ Some q → port.Name x ≡ text_port s (text_at names l (Of n i) q) → IsRereadPort names l s (port.Name x)
  label_port x n i (Of m j) d e h = let r = label_at names l ok.listing n m i j e in absurd (not_numbered x r.number d (h ∙ ap (text_port s) r.text))
  label_port x n i (port.Name j) d e h = (port.Name j, Of n i, (ok.wired (Of n i) (port.Name j) e).1, h)

  -- a name with one link is a free one
  name_port : (x : ℕ) → degree net_shape (start_links s) (port.Name x) ≡ 1 → IsRereadPort names l s (port.Name x)
  name_port x d = by_part r.side (link_parts names l ok s is r.listed)
    where
      r : End (port.Name x) s.joins
      r = end_there (port.Name x) s.joins (omega (arith, d, joins_ends names l ok s is (port.Name x)))

      by_part : (port.Name x ≡ r.pair.0) ⊎ (port.Name x ≡ r.pair.1) → AgentPart names l s r.pair ⊎ (FreePart names l s r.pair ⊎ RingPart s r.pair) → IsRereadPort names l s (port.Name x)
      by_part (inl e) (inl t) = let f : port.Name x ≡ reread_port names l s (Of t.name t.number) = e ∙ ap (λ (z : Port × Port). z.0) t.is in cc
      by_part (inr e) (inl t) = label_port x t.name t.number t.partner d t.partners (e ∙ ap (λ (z : Port × Port). z.1) t.is)
      by_part (inl e) (inr (inl t)) =
          let w = t.wire in
          (port.Name w.near, port.Name w.other, w.partners, e ∙ ap (λ (z : Port × Port). z.0) t.is ∙ ap (λ (z : Texts). text_port s z.0) w.texts)
      by_part (inr e) (inr (inl t)) =
          let w = t.wire in
          (port.Name w.other, port.Name w.near, (ok.wired (port.Name w.near) (port.Name w.other) w.partners).1, e ∙ ap (λ (z : Port × Port). z.1) t.is ∙ ap (λ (z : Texts). text_port s z.1) w.texts)
      by_part (inl e) (inr (inr t)) = absurd (not_numbered x t.number d (e ∙ ap (λ (z : Port × Port). z.0) t.is))
      by_part (inr e) (inr (inr t)) = absurd (not_numbered x t.number d (e ∙ ap (λ (z : Port × Port). z.1) t.is))

  -- a loose port is one of the net
  loose_port : (x : Port) → IsLoose s [] x → IsRereadPort names l s x
  loose_port (Of n i) h = agent_port n i h.0 h.1 h.2
  loose_port (port.Name x) h = name_port x h

  -- no other port has a partner in the start's net
  pub reread_others : (x y : Port) → (net_of s []).partner x ≡ Some y → IsRereadPort names l s x
  reread_others x y h = loose_port x (has_partner s is.proper [] nothing x y h).0
