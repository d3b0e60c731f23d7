-- Which links of the start of a printed text are at a free name.
use Rattle.std.proofs.Common.{◌≡◌, ℕ, ◌≤◌, List, ◌⊎◌, inl, inr, refl, sym, ap, ◌∙◌, arith, Option, Some}
use Rattle.ic_name.specs.Names.{Name}
use Rattle.ic_name.specs.declared.ports.Port.{Port}
use Rattle.ic_name.specs.declared.ports.Port.TheVariants.{Of}
use Rattle.ic_name.specs.declared.ports.Port.TheVariants as port
use Rattle.ic_theory.specs.Listed.{ListedNet, shown}
use Rattle.ic_theory.specs.Starts.{Start}
use Rattle.ic_text.proofs.LinkEnds.{ends}
use Rattle.ic_text.specs.NetText.{name_text, numbered}
use Rattle.ic_text.specs.Printable.{IsFreeName, IsPrintable}
use Rattle.ic_text.proofs.LabelFacts.{label_at, numbered_apart}
use Rattle.ic_text.proofs.PrintedEntries.{Texts}
use Rattle.ic_text.proofs.FreeNames.{FreeWire, is_there, same_free}
use Rattle.ic_text.proofs.PairEnds.{HitOrOff, at_pair, hit_cases}
use Rattle.ic_text.proofs.PrintedStart.{IsPrintedStart}
use Rattle.ic_text.proofs.PrintedLinks.{text_port, text_at, AgentPart, RingPart}
use Rattle.ic_text.proofs.AgentDegrees.{text_one}

-- a label that is a free name's text is at a port whose partner is a free name
pub free_label : (names : List (List ℕ)) (l : ListedNet) → IsPrintable names l → (n : Name) (i : ℕ) (q : Port) → (shown l).partner (Of n i) ≡ Some q → (x : List ℕ) → IsFreeName x → text_at names l (Of n i) q ≡ x
    → (m : ℕ) × (q ≡ port.Name m) × (name_text names m ≡ x)
free_label names l ok n i (Of m j) e x free h = let r = label_at names l ok.listing n m i j e in absurd (numbered_apart r.number x free (sym r.text ∙ h))
free_label names l ok n i (port.Name m) e x free h = (m, refl, h)

-- the port of a free name
abbrev pub free_port : List (List ℕ) → Start → ℕ → Port
free_port names s j = text_port s (name_text names j)

-- the two ends of the link of a wire between free names
abbrev pub wire_ends : Start → Texts → Port × Port
wire_ends s x = (text_port s x.0, text_port s x.1)

-- the free name j, whose partner is q, is one of the wire's two
abbrev pub IsOfWire : (names : List (List ℕ)) (l : ListedNet) → ℕ → Port → {x : Texts} → FreeWire names l x → Type 0
IsOfWire names l j q w = ((j ≡ w.near) × (q ≡ port.Name w.other)) ⊎ ((j ≡ w.other) × (q ≡ port.Name w.near))

-- no end of the wire's link is at the name, or one is, and the name is one of the two
abbrev pub IsAtWire : (names : List (List ℕ)) (l : ListedNet) → Start → ℕ → Port → {x : Texts} → FreeWire names l x → Type 0
IsAtWire names l s j q {x} w = (at_pair (free_port names s j) (wire_ends s x) ≡ 0) ⊎ ((at_pair (free_port names s j) (wire_ends s x) ≡ 1) × IsOfWire names l j q w)

module _ (names : List (List ℕ)) (l : ListedNet) (ok : IsPrintable names l) (s : Start) (is : IsPrintedStart names l s)
    (j : ℕ) (q : Port) (partner : (shown l).partner (port.Name j) ≡ Some q) (some : 1 ≤ ends (free_port names s j) s.joins) where
  -- the name's text may stand free
  pub free : IsFreeName (name_text names j)
  free = ok.free j (is_there _ q partner)

  -- a link of an agent is at the name only where its port is the name's partner
  pub agent_at : {pair : Port × Port} (r : AgentPart names l s pair) → (at_pair (free_port names s j) pair ≡ 0) ⊎ (q ≡ Of r.name r.number)
  agent_at {pair} r = go (hit_cases (free_port names s j) (text_port s (text_at names l (Of r.name r.number) r.partner)))
    where
      found : free_port names s j ≡ text_port s (text_at names l (Of r.name r.number) r.partner) → q ≡ Of r.name r.number
      found e =
          let m = free_label names l ok r.name r.number r.partner r.partners (name_text names j) free (sym (text_one names l ok s is _ _ some e)) in
          let to : (shown l).partner (Of r.name r.number) ≡ Some (port.Name m.0) = r.partners ∙ ap Some m.1 in
          let back = (ok.wired (Of r.name r.number) (port.Name m.0) to).1 in
          let f : m.0 ≡ j = same_free names l ok m.0 j _ _ back partner m.2 in
          let k : ◌≡◌ {A = Option Port} (Some q) (Some (Of r.name r.number)) = sym partner ∙ ap (λ (z : ℕ). (shown l).partner (port.Name z)) (sym f) ∙ back in
          cc

      go : HitOrOff (free_port names s j) (text_port s (text_at names l (Of r.name r.number) r.partner)) → (at_pair (free_port names s j) pair ≡ 0) ⊎ (q ≡ Of r.name r.number)
      go (inl e) = inr (found e.0)
      go (inr z) = inl (ap (at_pair (free_port names s j)) r.is ∙ omega (arith, z))

  -- the ends of a wire between free names are at the name only where it is one of the two
  pub wire_at : {x : Texts} (w : FreeWire names l x) → IsAtWire names l s j q w
  wire_at {x} w = go (hit_cases (free_port names s j) (text_port s x.0)) (hit_cases (free_port names s j) (text_port s x.1))
    where
      back : (shown l).partner (port.Name w.other) ≡ Some (port.Name w.near)
      back = (ok.wired (port.Name w.near) (port.Name w.other) w.partners).1

      apart : w.other ≡ w.near → ⊥
      apart e = (ok.wired (port.Name w.near) (port.Name w.other) w.partners).0 (ap port.Name e)

      at_near : free_port names s j ≡ text_port s x.0 → j ≡ w.near
      at_near e = same_free names l ok j w.near _ _ partner w.partners (text_one names l ok s is _ _ some e ∙ ap (λ (z : Texts). z.0) w.texts)

      at_other : free_port names s j ≡ text_port s x.1 → j ≡ w.other
      at_other e = same_free names l ok j w.other _ _ partner back (text_one names l ok s is _ _ some e ∙ ap (λ (z : Texts). z.1) w.texts)

      of_near : j ≡ w.near → q ≡ port.Name w.other
      of_near e = let k : ◌≡◌ {A = Option Port} (Some q) (Some (port.Name w.other)) = sym partner ∙ ap (λ (z : ℕ). (shown l).partner (port.Name z)) e ∙ w.partners in cc

      of_other : j ≡ w.other → q ≡ port.Name w.near
      of_other e = let k : ◌≡◌ {A = Option Port} (Some q) (Some (port.Name w.near)) = sym partner ∙ ap (λ (z : ℕ). (shown l).partner (port.Name z)) e ∙ back in cc

      go : HitOrOff (free_port names s j) (text_port s x.0) → HitOrOff (free_port names s j) (text_port s x.1) → IsAtWire names l s j q w
      go (inl a) (inl b) = absurd (apart (sym (at_other b.0) ∙ at_near a.0))
      go (inl a) (inr z) = inr (omega (arith, a.1, z), inl (at_near a.0, of_near (at_near a.0)))
      go (inr z) (inl b) = inr (omega (arith, b.1, z), inr (at_other b.0, of_other (at_other b.0)))
      go (inr z) (inr y) = inl (omega (arith, z, y))

  -- no link of a ring is at the name
  pub ring_at : {pair : Port × Port} (r : RingPart s pair) → at_pair (free_port names s j) pair ≡ 0
  ring_at {pair} r = ap (at_pair (free_port names s j)) r.is ∙ go (hit_cases (free_port names s j) (text_port s (numbered r.number)))
    where
      go : HitOrOff (free_port names s j) (text_port s (numbered r.number)) → at_pair (free_port names s j) (text_port s (numbered r.number), text_port s (numbered r.number)) ≡ 0
      go (inl e) = absurd (numbered_apart r.number (name_text names j) free (sym (text_one names l ok s is _ _ some e.0)))
      go (inr z) = omega (arith, z)
