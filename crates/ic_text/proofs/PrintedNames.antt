-- The names of a printed text are allowed: each occurs twice, or it is the text of a free name and occurs once.
use Rattle.std.proofs.Common.{◌≡◌, ℕ, zero, suc, ◌+◌, ◌*◌, ◌^◌, ◌≤◌, ◌<◌, Bool, true, false, cond, List, [], ◌∷◌, length, map, ◌⊎◌, inl, inr, Some, refl, sym, ap, subst, ◌∙◌, arith}
use Rattle.std.specs.Prelude.{IsSome}
use Rattle.std.specs.List.{AllByRecursion}
use Rattle.std.specs.Str.{bytes_eq}
use Rattle.std.proofs.lemmas.Bool.{cases_lt}
use Rattle.std.proofs.lemmas.Slice.Eq.{bytes_eq-Decides}
use Rattle.ic_name.specs.Names.{Name}
use Rattle.ic_name.specs.declared.ports.Port.{Port}
use Rattle.ic_name.specs.declared.ports.Port.TheVariants.{Of}
use Rattle.ic_name.specs.declared.ports.Port.TheVariants as port
use Rattle.ic_theory.specs.Listed.{ListedNet, free_among, shown}
use Rattle.ic_text.specs.Texts.{is_reserved}
use Rattle.ic_text.specs.Grammar.{equation_tokens, occurs, AreNames, names as names_of}
use Rattle.ic_text.proofs.Distinct.{times_in, occurs_is}
use Rattle.ic_text.proofs.WireCounts.{few_numbers}
use Rattle.ic_text.specs.NetText.{name_text, free_wires, numbered, numbered_wires}
use Rattle.ic_text.specs.Printable.{IsPrintable}
use Rattle.ic_text.specs.Printed.{printed_equations}
use Rattle.ic_text.proofs.Everywhere.{each_append, each_of_map}
use Rattle.ic_text.proofs.FreePairs.{each_free_text}
use Rattle.ic_text.proofs.LabelFacts.{free_unreserved}
use Rattle.ic_text.proofs.PairCounts.{is_free}
use Rattle.ic_text.proofs.ShownPorts.{all_ports, each_port, label_at, label_by}
use Rattle.ic_text.proofs.TextNames.{pair_names, ring_names, text_names}
use Rattle.ic_text.proofs.NameCounts.{printed, IsCountable, wire_occurs, ring_occurs, free_occurs}

-- a name occurs twice, or it is the text of a free name, which occurs once
abbrev pub Occurs : List (List ℕ) → ListedNet → List ℕ → Type 0
Occurs names l x = (times_in x (printed names l) ≡ 2) ⊎ ((j : ℕ) × (IsSome (free_among j l.frees)) × (x ≡ name_text names j) × (times_in x (printed names l) ≡ 1))

-- a text that occurs is one of the names
pub occurring : (P : List ℕ → Type 0) (x : List ℕ) (xs : List (List ℕ)) → AllByRecursion P xs → 1 ≤ times_in x xs → P x
occurring P x [] k lt = absurd (omega arith)
occurring P x (y ∷ ys) k lt = go (bytes_eq x y) refl lt (occurring P x ys k.1)
  where
    go : (b : Bool) → bytes_eq x y ≡ b → 1 ≤ cond b 1 0 + times_in x ys → (1 ≤ times_in x ys → P x) → P x
    go true e g ih = subst P (sym ((bytes_eq-Decides x y).0 e)) k.0
    go false e g ih = ih (omega arith)

module _ (names : List (List ℕ)) (l : ListedNet) (h : IsPrintable names l) where
  -- the label of a port does
  port_occurs : IsCountable l → (n : Name) (i : ℕ) (q : Port) → (shown l).partner (Of n i) ≡ Some q → Occurs names l (label_at names l (Of n i))
  port_occurs few n i (Of m j) e = inl (wire_occurs names l h few n m i j e)
  port_occurs few n i (port.Name j) e =
      let back = (h.wired (Of n i) (port.Name j) e).1 in
      let label = label_by names l (Of n i) (port.Name j) e in
      inr (j, is_free l j (Of n i) back, label, ap (λ x. times_in x (printed names l)) label ∙ free_occurs names l h j (Of n i) back)

  -- so does each text of a wire between free names
  pairs_occur : (es : List (List ℕ × List ℕ)) → AllByRecursion (λ x. Occurs names l x.0 × Occurs names l x.1) es → AllByRecursion (Occurs names l) (pair_names es)
  pairs_occur [] k = tt
  pairs_occur (e ∷ es) k = (k.0.0, (k.0.1, pairs_occur es k.1))

  -- and each number of a ring
  rings_occur : IsCountable l → (k n : ℕ) → length (numbered_wires l.agents) ≤ k → k + n ≤ length (numbered_wires l.agents) + l.rings → AllByRecursion (Occurs names l) (ring_names k n)
  rings_occur few k zero low high = tt
  rings_occur few k (suc n) low high =
      let one : Occurs names l (numbered k) = inl (ring_occurs names l h few k low (omega arith)) in
      (one, (one, rings_occur few (k + 1) n (omega arith) (omega arith)))

  -- all names do
  pub all_occur : IsCountable l → AllByRecursion (Occurs names l) (printed names l)
  all_occur few =
      rw (text_names names l h.listing)
      (each_append (Occurs names l) (map (label_at names l) (all_ports l.agents)) _ (each_of_map (Occurs names l) (label_at names l) (all_ports l.agents) (each_port l h.listing _ (port_occurs few)))
      (each_append (Occurs names l) (pair_names (free_wires names l.frees)) _ (pairs_occur (free_wires names l.frees) (each_free_text names l h (Occurs names l) (λ j m e. inr (j, is_free l j (port.Name m) e, refl, free_occurs names l h j (port.Name m) e))))
      (rings_occur few (length (numbered_wires l.agents)) l.rings (omega arith) (omega arith))))

  -- the names are allowed
  pub allowed : IsCountable l → AreNames (printed names l)
  allowed few = record { twice = λ x. most x (cases_lt (times_in x (printed names l)) 1); joints = λ x e. free x e (occurring (Occurs names l) x (printed names l) (all_occur few) (let k = occurs_is x (printed names l) in omega arith)) }
    where
      few_times : (x : List ℕ) → Occurs names l x → times_in x (printed names l) ≤ 2
      few_times x (inl e) = omega arith
      few_times x (inr o) = let e = o.3 in omega arith

      most : (x : List ℕ) → (times_in x (printed names l) < 1) ⊎ (1 ≤ times_in x (printed names l)) → occurs x (printed names l) ≤ 2
      most x (inl lt) = let k = occurs_is x (printed names l) in omega arith
      most x (inr le) = let k = occurs_is x (printed names l) in let t = few_times x (occurring (Occurs names l) x (printed names l) (all_occur few) le) in omega arith

      free : (x : List ℕ) → occurs x (printed names l) ≡ 1 → Occurs names l x → is_reserved x ≡ false
      free x e (inl t) = absurd (let k = occurs_is x (printed names l) in omega arith)
      free x e (inr o) = ap is_reserved o.2 ∙ free_unreserved (name_text names o.0) (h.free o.0 o.1)

-- a net that can be printed has few enough numbers
pub countable : (l : ListedNet) → 3 * length l.agents + l.rings < 2 ^ 64 → IsCountable l
countable l few = let k = few_numbers l.agents in omega arith

-- the names of a printed text are allowed
pub printed_names : (names : List (List ℕ)) (l : ListedNet) → IsPrintable names l → 3 * length l.agents + l.rings < 2 ^ 64 → AreNames (names_of (equation_tokens (printed_equations names l)))
printed_names names l h few = allowed names l h (countable l few)
