-- The links of the start of a printed text close as many rings as the net has.
use Rattle.std.proofs.Common.{◌≡◌, ℕ, zero, suc, ◌+◌, ◌≤◌, Bool, false, List, [], ◌∷◌, ◌++◌, length, ◌⊎◌, inl, inr, refl, sym, ap, subst, ◌∙◌, arith, append_assoc, None, Option}
use Rattle.std.specs.Prelude.{if◌then◌else◌}
use Rattle.std.proofs.lemmas.Bool.{false_from_ne_true}
use Rattle.ic_name.specs.Events.{Event}
use Rattle.ic_name.specs.Same.{same_port}
use Rattle.ic_name.specs.declared.ports.Port.{Port}
use Rattle.ic_name.specs.declared.ports.Port.TheVariants.{Of}
use Rattle.ic_name.specs.declared.ports.Port.TheVariants as port
use Rattle.ic_name.proofs.SameFacts.{same_port_true, same_port_self}
use Rattle.ic_theory.specs.Links.{degree, IsSlim}
use Rattle.ic_theory.specs.Orders.{here, IsIn}
use Rattle.ic_theory.specs.FarEnds.{far}
use Rattle.ic_theory.specs.Rings.{rings}
use Rattle.ic_theory.proofs.Degrees.{slim-pick}
use Rattle.ic_theory.proofs.Orders.{far_bare}
use Rattle.ic_theory.proofs.Picks.{in_first, in_more}
use Rattle.ic_theory.specs.Born.{placed}
use Rattle.ic_theory.specs.Listed.{ListedNet}
use Rattle.ic_theory.specs.Starts.{Start, net_shape, start_links}
use Rattle.ic_text.proofs.LinkEnds.{ends, degree_is}
use Rattle.ic_text.specs.NetText.{name_text, numbered, numbered_wires, free_wires}
use Rattle.ic_text.specs.Printable.{IsPrintable}
use Rattle.ic_text.specs.Reread.{reread_port}
use Rattle.ic_text.proofs.PrintedEntries.{Texts}
use Rattle.ic_text.proofs.FreeNames.{same_free}
use Rattle.ic_text.proofs.PairEnds.{hit_self}
use Rattle.ic_text.proofs.PrintedJoins.{agent_joins, free_joins, ring_joins}
use Rattle.ic_text.proofs.PrintedStart.{number_in, IsPrintedStart}
use Rattle.ic_text.proofs.PrintedLinks.{text_port, text_at, AgentPart, agent_part, FreePart, free_part}
use Rattle.ic_text.proofs.AgentDegrees.{joins_ends, text_one}
use Rattle.ic_text.proofs.RereadPartners.{port_degree, start_slim}
use Rattle.ic_theory.proofs.InLists.{in-append_cases}

-- 1 for what holds
abbrev one : Bool → ℕ
one b = if b then 1 else 0

-- the links behind one are slim, too
slim_behind : (m : Option Event) (k : ℕ) (x : Port × Port) (js : List (Port × Port)) → IsSlim net_shape (placed m k (x ∷ js)) → IsSlim net_shape (placed m (k + 1) js)
slim_behind m k x js slim = slim-pick net_shape (here {x = record { maker = m; place = k; a = x.0; b = x.1 }}) slim

-- a link closes no ring where its left end has no other link and isn't its right end
open_link : (m : Option Event) (k : ℕ) (x : Port × Port) (js : List (Port × Port)) → IsSlim net_shape (placed m k js) → ends x.0 js ≡ 0 → (x.0 ≡ x.1 → ⊥)
    → one (same_port (far net_shape (placed m k js) x.0) x.1) ≡ 0
open_link m k x js slim none apart =
    let bare : far net_shape (placed m k js) x.0 ≡ x.0 = far_bare net_shape (placed m k js) slim x.0 (degree_is m k js x.0 ∙ none) in
    let off : same_port x.0 x.1 ≡ false = false_from_ne_true _ (λ t. apart (same_port_true x.0 x.1 t)) in
    rw (bare, off) refl

-- it closes one where both its ends are one port, which has no other link
loop_link : (m : Option Event) (k : ℕ) (p : Port) (js : List (Port × Port)) → IsSlim net_shape (placed m k js) → ends p js ≡ 0
    → one (same_port (far net_shape (placed m k js) p) p) ≡ 1
loop_link m k p js slim none =
    let bare : far net_shape (placed m k js) p ≡ p = far_bare net_shape (placed m k js) slim p (degree_is m k js p ∙ none) in
    rw (bare, same_port_self p) refl

-- links whose left ends have no other link and aren't their right ends close no ring
open_links : (m : Option Event) (k r : ℕ) (xs ys : List (Port × Port)) → IsSlim net_shape (placed m k (xs ++ ys)) → ((x : Port × Port) → IsIn x xs → ends x.0 (xs ++ ys) ≤ 1) → ((x : Port × Port) → IsIn x xs → x.0 ≡ x.1 → ⊥)
    → ((i : ℕ) → IsSlim net_shape (placed m i ys) → rings net_shape (placed m i ys) ≡ r) → rings net_shape (placed m k (xs ++ ys)) ≡ r
open_links m k r [] ys slim few apart count = count k slim
open_links m k r (x ∷ xs) ys slim few apart count =
    let slim' : IsSlim net_shape (placed m (k + 1) (xs ++ ys)) = slim_behind m k x (xs ++ ys) slim in
    let none : ends x.0 (xs ++ ys) ≡ 0 = omega (arith, few x (in_first x xs), hit_self x.0) in
    let first = open_link m (k + 1) x (xs ++ ys) slim' none (apart x (in_first x xs)) in
    let later = open_links m (k + 1) r xs ys slim' (λ y i. omega (arith, few y (in_more x i))) (λ y i. apart y (in_more x i)) count in
    omega (arith, first, later)

-- each ring's link closes one
ring_links : (N : List ℕ → ℕ) (m : Option Event) (i k r : ℕ) → IsSlim net_shape (placed m i (ring_joins N k r)) → rings net_shape (placed m i (ring_joins N k r)) ≡ r
ring_links N m i k zero slim = refl
ring_links N m i k (suc r) slim =
    let p : Port = port.Name (N (numbered k)) in
    let slim' : IsSlim net_shape (placed m (i + 1) (ring_joins N (k + 1) r)) = slim_behind m i (p, p) (ring_joins N (k + 1) r) slim in
    let two : degree net_shape (placed m i (ring_joins N k (suc r))) p ≤ 2 = slim p in
    let none : ends p (ring_joins N (k + 1) r) ≡ 0 = omega (arith, two, degree_is m (i + 1) (ring_joins N (k + 1) r) p, hit_self p) in
    let first = loop_link m (i + 1) p (ring_joins N (k + 1) r) slim' none in
    omega (arith, first, ring_links N m (i + 1) (k + 1) r slim')

module _ (names : List (List ℕ)) (l : ListedNet) (ok : IsPrintable names l) (s : Start) (is : IsPrintedStart names l s) where
  -- the links of agents and of wires between free names
  wire_part : {x : Port × Port} → IsIn x (agent_joins (number_in s) names (numbered_wires l.agents) 0 l.agents ++ free_joins (number_in s) (free_wires names l.frees)) → AgentPart names l s x ⊎ FreePart names l s x
  wire_part {x} i = go (in-append_cases (agent_joins (number_in s) names (numbered_wires l.agents) 0 l.agents) i)
    where
      go : IsIn x (agent_joins (number_in s) names (numbered_wires l.agents) 0 l.agents) ⊎ IsIn x (free_joins (number_in s) (free_wires names l.frees)) → AgentPart names l s x ⊎ FreePart names l s x
      go (inl c) = inl (agent_part names l ok s c)
      go (inr c) = inr (free_part names l ok s c)

  -- the left end of each has one link
  left_once : {x : Port × Port} → AgentPart names l s x ⊎ FreePart names l s x → ends x.0 s.joins ≡ 1
  left_once {x} (inl r) =
      let p = reread_port names l s (Of r.name r.number) in
      ap (λ (z : Port × Port). ends z.0 s.joins) r.is ∙ sym (joins_ends names l ok s is p) ∙ port_degree names l ok s is (Of r.name r.number) r.partner r.partners
  left_once {x} (inr r) =
      let w = r.wire in
      let p = reread_port names l s (port.Name w.near) in
      ap (λ (z : Port × Port). ends z.0 s.joins) r.is ∙ ap (λ (z : Texts). ends (text_port s z.0) s.joins) w.texts ∙ sym (joins_ends names l ok s is p) ∙ port_degree names l ok s is (port.Name w.near) (port.Name w.other) w.partners

  -- it isn't the right end
  left_apart : {x : Port × Port} → AgentPart names l s x ⊎ FreePart names l s x → x.0 ≡ x.1 → ⊥
  left_apart {x} (inl r) e =
      let f : reread_port names l s (Of r.name r.number) ≡ text_port s (text_at names l (Of r.name r.number) r.partner) = sym (ap (λ (z : Port × Port). z.0) r.is) ∙ e ∙ ap (λ (z : Port × Port). z.1) r.is in
      cc
  left_apart {x} (inr r) e =
      let w = r.wire in
      let t = ok.wired (port.Name w.near) (port.Name w.other) w.partners in
      let f : text_port s (name_text names w.near) ≡ text_port s (name_text names w.other) = sym (ap (λ (z : Texts). text_port s z.0) w.texts) ∙ sym (ap (λ (z : Port × Port). z.0) r.is) ∙ e ∙ ap (λ (z : Port × Port). z.1) r.is ∙ ap (λ (z : Texts). text_port s z.1) w.texts in
      let one : ends (text_port s (name_text names w.near)) s.joins ≡ 1 = sym (joins_ends names l ok s is (text_port s (name_text names w.near))) ∙ port_degree names l ok s is (port.Name w.near) (port.Name w.other) w.partners in
      let same : name_text names w.near ≡ name_text names w.other = text_one names l ok s is _ _ (omega (arith, one)) f in
      t.0 (ap port.Name (sym (same_free names l ok w.near w.other _ _ w.partners t.1 same)))

  -- the links of agents and free names, and then those of rings
  grouped : s.joins ≡ (agent_joins (number_in s) names (numbered_wires l.agents) 0 l.agents ++ free_joins (number_in s) (free_wires names l.frees)) ++ ring_joins (number_in s) (length (numbered_wires l.agents)) l.rings
  grouped = is.joins ∙ sym (append_assoc (agent_joins (number_in s) names (numbered_wires l.agents) 0 l.agents) (free_joins (number_in s) (free_wires names l.frees)) (ring_joins (number_in s) (length (numbered_wires l.agents)) l.rings))

  -- the rings are as many as the net's
  pub reread_rings : rings net_shape (start_links s) ≡ l.rings
  reread_rings =
      let wires = agent_joins (number_in s) names (numbered_wires l.agents) 0 l.agents ++ free_joins (number_in s) (free_wires names l.frees) in
      let loops = ring_joins (number_in s) (length (numbered_wires l.agents)) l.rings in
      let slim : IsSlim net_shape (placed None 0 (wires ++ loops)) = subst (λ js. IsSlim net_shape (placed None 0 js)) grouped (start_slim names l ok s is) in
      ap (λ js. rings net_shape (placed None 0 js)) grouped
      ∙ open_links None 0 l.rings wires loops slim
      (λ x i. omega (arith, left_once (wire_part i), ap (ends x.0) grouped))
      (λ x i. left_apart (wire_part i))
      (λ i t. ring_links (number_in s) None i (length (numbered_wires l.agents)) l.rings t)
