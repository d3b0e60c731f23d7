-- How often each name occurs in a printed text: the number of a wire or of a ring twice, the text of a free name once.
use Rattle.std.proofs.Common.{◌≡◌, ◌≢◌, ℕ, ◌+◌, ◌^◌, ◌≤◌, ◌<◌, Bool, true, false, cond, eqb, List, [], ◌∷◌, ◌++◌, length, map, ◌⊎◌, inl, inr, Option, Some, refl, sym, ap, ◌∙◌, arith}
use Rattle.std.specs.List.{AllByRecursion}
use Rattle.std.specs.Str.{bytes_eq}
use Rattle.std.specs.Cmp.{both_ways}
use Rattle.std.proofs.lemmas.Bool.{eqb-true, eq-eqb, false_from_ne_true}
use Rattle.std.proofs.lemmas.Bool.Decides.{nat_tests}
use Rattle.std.proofs.lemmas.Slice.Eq.{bytes_eq-Decides}
use Rattle.ic_name.specs.Names.{Name}
use Rattle.ic_name.specs.Same.{same_port}
use Rattle.ic_name.proofs.SameFacts.{same_port_true, same_port_self}
use Rattle.ic_name.specs.declared.ports.Port.{Port}
use Rattle.ic_name.specs.declared.ports.Port.TheVariants.{Of}
use Rattle.ic_name.specs.declared.ports.Port.TheVariants as port
use Rattle.ic_theory.specs.Listed.{ListedNet, shown}
use Rattle.ic_text.specs.Grammar.{equation_tokens, names as names_of}
use Rattle.ic_text.proofs.Distinct.{times_in}
use Rattle.ic_text.specs.NetText.{name_text, free_wires, numbered, numbered_wires}
use Rattle.ic_text.specs.Printable.{IsPrintable}
use Rattle.ic_text.specs.Printed.{printed_equations}
use Rattle.ic_text.proofs.FreePairs.{each_free_text}
use Rattle.ic_text.proofs.LabelFacts.{numbered_apart, label_at as label_number, label_both, label_one}
use Rattle.ic_text.proofs.PairCounts.{pairs_none, paired_once, text_test, is_free}
use Rattle.ic_text.proofs.PortCounts.{port_count, port_once, label_none, label_once, label_twice}
use Rattle.ic_text.proofs.ShownPorts.{all_ports, each_port, label_at, label_by}
use Rattle.ic_text.proofs.TextNames.{pair_names, ring_names, text_names}
use Rattle.ic_text.proofs.RingCounts.{texts_apart, number_test, rings_above, rings_twice, rings_none}

-- the occurrences in two lists in a row
pub times_append : (x : List ℕ) (xs ys : List (List ℕ)) → times_in x (xs ++ ys) ≡ times_in x xs + times_in x ys
times_append x [] ys = omega arith
times_append x (y ∷ xs) ys = omega (arith, times_append x xs ys)

-- two ports that are partners differ
ports_apart : (p q : Port) → p ≢ q → same_port p q ≡ false
ports_apart p q n = false_from_ne_true _ (λ t. n (same_port_true p q t))

-- ---- all names

-- the names of the text
abbrev pub printed : List (List ℕ) → ListedNet → List (List ℕ)
printed names l = names_of (equation_tokens (printed_equations names l))

-- the numbers that the text needs are few enough to be told apart
abbrev pub IsCountable : ListedNet → Type 0
IsCountable l = length (numbered_wires l.agents) + l.rings < 2 ^ 64

-- one name has one partner
one_partner : (p q : Port) → ◌≡◌ {A = Option Port} (Some p) (Some q) → p ≡ q
one_partner p q e = cc

-- a port of an agent is no free name
no_port : (n : Name) (i j : ℕ) → Of n i ≡ port.Name j → ⊥
no_port n i j e = cc

module _ (names : List (List ℕ)) (l : ListedNet) (h : IsPrintable names l) where
  -- the free names are apart from all numbers
  number_free : (k : ℕ) → AllByRecursion (λ e. (bytes_eq (numbered k) e.0 ≡ false) × (bytes_eq (numbered k) e.1 ≡ false)) (free_wires names l.frees)
  number_free k = each_free_text names l h (λ y. bytes_eq (numbered k) y ≡ false) (λ j m e. texts_apart _ _ (numbered_apart k (name_text names j) (h.free j (is_free l j (port.Name m) e))))

  -- the occurrences, in three parts
  in_parts : (x : List ℕ) → times_in x (printed names l) ≡ times_in x (map (label_at names l) (all_ports l.agents)) + (times_in x (pair_names (free_wires names l.frees)) + times_in x (ring_names (length (numbered_wires l.agents)) l.rings))
  in_parts x =
      ap (times_in x) (text_names names l h.listing)
      ∙ times_append x (map (label_at names l) (all_ports l.agents)) (pair_names (free_wires names l.frees) ++ ring_names (length (numbered_wires l.agents)) l.rings)
      ∙ ap (λ (k : ℕ). times_in x (map (label_at names l) (all_ports l.agents)) + k) (times_append x (pair_names (free_wires names l.frees)) (ring_names (length (numbered_wires l.agents)) l.rings))

  -- ---- the number of a wire

  -- a number that is the label of no port
  ring_at : (k : ℕ) → IsCountable l → length (numbered_wires l.agents) ≤ k → k < length (numbered_wires l.agents) + l.rings → (n : Name) (i : ℕ) (q : Port) → (shown l).partner (Of n i) ≡ Some q → bytes_eq (numbered k) (label_at names l (Of n i)) ≡ false
  ring_at k few low high n i (port.Name j) e = ap (bytes_eq (numbered k)) (label_by names l (Of n i) (port.Name j) e) ∙ texts_apart (numbered k) (name_text names j) (numbered_apart k (name_text names j) (h.free j (is_free l j (Of n i) (h.wired (Of n i) (port.Name j) e).1)))
  ring_at k few low high n i (Of m j) e =
      let w = label_number names l h.listing n m i j e in
      let below = w.below in
      let other : eqb k w.number ≡ false = grind (arith, nat_tests) in
      ap (bytes_eq (numbered k)) (label_by names l (Of n i) (Of m j) e ∙ w.text) ∙ number_test k w.number (omega arith) (omega arith) ∙ other

  -- the number of a ring occurs twice
  pub ring_occurs : IsCountable l → (k : ℕ) → length (numbered_wires l.agents) ≤ k → k < length (numbered_wires l.agents) + l.rings → times_in (numbered k) (printed names l) ≡ 2
  ring_occurs few k low high =
      let a = label_none (numbered k) (label_at names l) (all_ports l.agents) (each_port l h.listing _ (ring_at k few low high)) in
      let b = pairs_none (numbered k) (free_wires names l.frees) (number_free k) in
      let c = rings_twice k (length (numbered_wires l.agents)) l.rings low high few in
      in_parts (numbered k) ∙ omega arith

  -- a label is that of a wire's port at its two ports alone
  wire_at : IsCountable l → (n m : Name) (i j : ℕ) → (shown l).partner (Of n i) ≡ Some (Of m j) → (n' : Name) (i' : ℕ) (q : Port) → (shown l).partner (Of n' i') ≡ Some q
      → cond (bytes_eq (label_at names l (Of n i)) (label_at names l (Of n' i'))) 1 0 ≡ cond (same_port (Of n i) (Of n' i')) 1 0 + cond (same_port (Of m j) (Of n' i')) 1 0
  wire_at few n m i j e n' i' (port.Name k) f =
      let w = label_number names l h.listing n m i j e in
      let free = h.free k (is_free l k (Of n' i') (h.wired (Of n' i') (port.Name k) f).1) in
      let back = (h.wired (Of n i) (Of m j) e).1 in
      let label : label_at names l (Of n i) ≡ numbered w.number = label_by names l (Of n i) (Of m j) e ∙ w.text in
      let test : bytes_eq (label_at names l (Of n i)) (label_at names l (Of n' i')) ≡ false = rw (label, label_by names l (Of n' i') (port.Name k) f) (texts_apart _ _ (numbered_apart w.number (name_text names k) free)) in
      let near : same_port (Of n i) (Of n' i') ≡ false = ports_apart (Of n i) (Of n' i') (λ s. no_port m j k (one_partner _ _ (sym e ∙ ap (shown l).partner s ∙ f))) in
      let far : same_port (Of m j) (Of n' i') ≡ false = ports_apart (Of m j) (Of n' i') (λ s. no_port n i k (one_partner _ _ (sym back ∙ ap (shown l).partner s ∙ f))) in
      rw (test, near, far) refl
  wire_at few n m i j e n' i' (Of m' j') f = by (same_port (Of n i) (Of n' i')) (same_port (Of m j) (Of n' i')) refl refl
    where
      apart : Of m j ≢ Of n i
      apart = (h.wired (Of n i) (Of m j) e).0

      there : label_at names l (Of m j) ≡ label_at names l (Of n i)
      there = label_by names l (Of m j) (Of n i) (h.wired (Of n i) (Of m j) e).1 ∙ sym (label_both names (numbered_wires l.agents) n m i j apart) ∙ sym (label_by names l (Of n i) (Of m j) e)

      other : same_port (Of n i) (Of n' i') ≡ false → same_port (Of m j) (Of n' i') ≡ false → label_at names l (Of n i) ≢ label_at names l (Of n' i')
      other s t u = go (label_one names l h (omega arith) n m n' m' i j i' j' e f (sym (label_by names l (Of n i) (Of m j) e) ∙ u ∙ label_by names l (Of n' i') (Of m' j') f))
        where
          clash : (p : Port) → same_port p (Of n' i') ≡ false → Of n' i' ≡ p → ⊥
          clash p s v = let a : same_port p (Of n' i') ≡ true = ap (same_port p) v ∙ same_port_self p in let b : true ≡ false = sym a ∙ s in cc

          go : (Of n' i' ≡ Of n i) ⊎ (Of n' i' ≡ Of m j) → ⊥
          go (inl v) = clash (Of n i) s v
          go (inr v) = clash (Of m j) t v

      by : (a b : Bool) → same_port (Of n i) (Of n' i') ≡ a → same_port (Of m j) (Of n' i') ≡ b → cond (bytes_eq (label_at names l (Of n i)) (label_at names l (Of n' i'))) 1 0 ≡ cond a 1 0 + cond b 1 0
      by true true s t = absurd (apart (same_port_true (Of m j) (Of n' i') t ∙ sym (same_port_true (Of n i) (Of n' i') s)))
      by true false s t = let u = (bytes_eq-Decides (label_at names l (Of n i)) (label_at names l (Of n' i'))).1 (ap (label_at names l) (same_port_true (Of n i) (Of n' i') s)) in rw u refl
      by false true s t = let u = (bytes_eq-Decides (label_at names l (Of n i)) (label_at names l (Of n' i'))).1 (sym there ∙ ap (label_at names l) (same_port_true (Of m j) (Of n' i') t)) in rw u refl
      by false false s t = let u = texts_apart (label_at names l (Of n i)) (label_at names l (Of n' i')) (other s t) in rw u refl

  -- the number of a wire occurs twice
  pub wire_occurs : IsCountable l → (n m : Name) (i j : ℕ) → (shown l).partner (Of n i) ≡ Some (Of m j) → times_in (label_at names l (Of n i)) (printed names l) ≡ 2
  wire_occurs few n m i j e =
      let w = label_number names l h.listing n m i j e in
      let below = w.below in
      let label : label_at names l (Of n i) ≡ numbered w.number = label_by names l (Of n i) (Of m j) e ∙ w.text in
      let a = label_twice (label_at names l (Of n i)) (label_at names l) (Of n i) (Of m j) (all_ports l.agents) (each_port l h.listing _ (wire_at few n m i j e)) in
      let one = port_once l h.listing n i (Of m j) e in
      let two = port_once l h.listing m j (Of n i) (h.wired (Of n i) (Of m j) e).1 in
      let b : times_in (label_at names l (Of n i)) (pair_names (free_wires names l.frees)) ≡ 0 = rw label (pairs_none (numbered w.number) (free_wires names l.frees) (number_free w.number)) in
      let c : times_in (label_at names l (Of n i)) (ring_names (length (numbered_wires l.agents)) l.rings) ≡ 0 = rw label (rings_above w.number (length (numbered_wires l.agents)) l.rings below few) in
      in_parts (label_at names l (Of n i)) ∙ omega arith

  -- ---- a free name

  -- a free name's text is the label of its partner alone
  free_at : (j : ℕ) (q : Port) → (shown l).partner (port.Name j) ≡ Some q → (n : Name) (i : ℕ) (q' : Port) → (shown l).partner (Of n i) ≡ Some q' → bytes_eq (name_text names j) (label_at names l (Of n i)) ≡ same_port q (Of n i)
  free_at j q e n i (Of m k) f =
      let w = label_number names l h.listing n m i k f in
      let back = (h.wired (port.Name j) q e).1 in
      let near : bytes_eq (name_text names j) (label_at names l (Of n i)) ≡ false = ap (bytes_eq (name_text names j)) (label_by names l (Of n i) (Of m k) f ∙ w.text) ∙ texts_apart (name_text names j) (numbered w.number) (λ s. numbered_apart w.number (name_text names j) (h.free j (is_free l j q e)) (sym s)) in
      let far : same_port q (Of n i) ≡ false = ports_apart q (Of n i) (λ s. no_port m k j (one_partner _ _ (sym f ∙ ap (shown l).partner (sym s) ∙ back))) in
      near ∙ sym far
  free_at j q e n i (port.Name k) f =
      let other = (h.wired (Of n i) (port.Name k) f).1 in
      let back = (h.wired (port.Name j) q e).1 in
      ap (bytes_eq (name_text names j)) (label_by names l (Of n i) (port.Name k) f)
      ∙ text_test names l h j k (is_free l j q e) (is_free l k (Of n i) other)
      ∙ both_ways _ _ (λ t. to (eqb-true j k t)) (λ t. eq-eqb j k (from back (same_port_true q (Of n i) t)))
    where
      to : j ≡ k → same_port q (Of n i) ≡ true
      to s =
          let p : Of n i ≡ q = one_partner _ _ (sym (h.wired (Of n i) (port.Name k) f).1 ∙ ap (λ z. (shown l).partner (port.Name z)) (sym s) ∙ e) in
          ap (same_port q) p ∙ same_port_self q

      name_is : port.Name j ≡ port.Name k → j ≡ k
      name_is s = cc

      from : (shown l).partner q ≡ Some (port.Name j) → q ≡ Of n i → j ≡ k
      from back s = name_is (one_partner _ _ (sym back ∙ ap (shown l).partner s ∙ f))

  -- where its partner is a port of an agent, no wire between free names has it
  free_alone : (j : ℕ) (n : Name) (i : ℕ) → (shown l).partner (port.Name j) ≡ Some (Of n i) → AllByRecursion (λ e. (bytes_eq (name_text names j) e.0 ≡ false) × (bytes_eq (name_text names j) e.1 ≡ false)) (free_wires names l.frees)
  free_alone j n i e = each_free_text names l h (λ y. bytes_eq (name_text names j) y ≡ false) (λ k m f. text_test names l h j k (is_free l j (Of n i) e) (is_free l k (port.Name m) f) ∙ false_from_ne_true _ (λ t. no_port n i m (one_partner _ _ (sym e ∙ ap (λ z. (shown l).partner (port.Name z)) (eqb-true j k t) ∙ f))))

  -- a name is no port of a line
  no_name_shown : (m : ℕ) → port_count (port.Name m) (all_ports l.agents) ≡ 0
  no_name_shown m = none (all_ports l.agents) (each_port l h.listing (λ p. same_port (port.Name m) p ≡ false) (λ n i q e. refl))
    where
      none : (ps : List Port) → AllByRecursion (λ p. same_port (port.Name m) p ≡ false) ps → port_count (port.Name m) ps ≡ 0
      none [] k = refl
      none (p ∷ ps) k = rw k.0 (omega (arith, none ps k.1))

  -- the text of a free name occurs once
  pub free_occurs : (j : ℕ) (q : Port) → (shown l).partner (port.Name j) ≡ Some q → times_in (name_text names j) (printed names l) ≡ 1
  free_occurs j q e = by q e (label_once (name_text names j) (label_at names l) q (all_ports l.agents) (each_port l h.listing _ (free_at j q e)))
    where
      rings : times_in (name_text names j) (ring_names (length (numbered_wires l.agents)) l.rings) ≡ 0
      rings = rings_none (name_text names j) (length (numbered_wires l.agents)) l.rings (h.free j (is_free l j q e))

      by : (r : Port) → (shown l).partner (port.Name j) ≡ Some r → times_in (name_text names j) (map (label_at names l) (all_ports l.agents)) ≡ port_count r (all_ports l.agents) → times_in (name_text names j) (printed names l) ≡ 1
      by (Of n i) f a =
          let b = port_once l h.listing n i (port.Name j) (h.wired (port.Name j) (Of n i) f).1 in
          let c = pairs_none (name_text names j) (free_wires names l.frees) (free_alone j n i f) in
          let d = rings in
          in_parts (name_text names j) ∙ omega arith
      by (port.Name m) f a =
          let b = no_name_shown m in
          let c = paired_once names l h j m f in
          let d = rings in
          in_parts (name_text names j) ∙ omega arith
