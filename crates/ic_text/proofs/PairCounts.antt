-- How often a text stands in the wires between two free names.
use Rattle.std.proofs.Common.{◌≡◌, ℕ, ◌+◌, Bool, true, false, cond, not, if◌then◌else◌, eqb, List, [], ◌∷◌, map, fold, filter_map, Option, Some, None, Ordering, refl, sym, ap, ap₂, ◌∙◌, arith}
use Rattle.std.specs.Prelude.{IsSome}
use Rattle.std.specs.BTreeMap.{insert_entry}
use Rattle.std.specs.List.{AllByRecursion, cons_option}
use Rattle.std.specs.List.Sorted.{IsStrictlySortedBy}
use Rattle.std.specs.Ordering.{nat_cmp, is_lt, is_eq, match_ordering, ordering_reverse}
use Rattle.std.specs.Str.{bytes_eq}
use Rattle.std.specs.Cmp.{both_ways}
use Rattle.std.specs.Cmp.Lexicographic.{slice_cmp}
use Rattle.std.specs.declared.cmp.Ordering.TheVariants.{Less, Equal, Greater}
use Rattle.std.proofs.lemmas.Bool.{eqb-true, eq-eqb, false_from_ne_true}
use Rattle.std.proofs.lemmas.Cmp.{nat_list_cmp_total}
use Rattle.std.proofs.lemmas.Map.Keys.{sorted_tail}
use Rattle.std.proofs.lemmas.Map.Text.{is_eq-slice_cmp}
use Rattle.std.proofs.lemmas.Slice.Eq.{bytes_eq-Decides}
use Rattle.ic_name.specs.Names.{Name}
use Rattle.ic_name.specs.declared.ports.Port.{Port}
use Rattle.ic_name.specs.declared.ports.Port.TheVariants.{Of}
use Rattle.ic_name.specs.declared.ports.Port.TheVariants as port
use Rattle.ic_theory.specs.Listed.{ListedNet, free_among, shown}
use Rattle.ic_text.proofs.Distinct.{times_in, bytes_eq_comm}
use Rattle.ic_text.specs.NetText.{name_text, free_wire, free_wires}
use Rattle.ic_text.specs.Printable.{IsPrintable}
use Rattle.ic_text.proofs.Everywhere.{each_both, each_so}
use Rattle.ic_text.proofs.FreePairs.{lesser_apart, numbers_above, frees_found, each_inserted, each_wire, wire_texts}
use Rattle.ic_text.proofs.PortCounts.{free_count, free_once}
use Rattle.ic_text.proofs.TextNames.{pair_names}

-- a text that none of the wires has
pub pairs_none : (x : List ℕ) (es : List (List ℕ × List ℕ)) → AllByRecursion (λ e. (bytes_eq x e.0 ≡ false) × (bytes_eq x e.1 ≡ false)) es → times_in x (pair_names es) ≡ 0
pairs_none x [] h = refl
pairs_none x (e ∷ es) h = rw (h.0.0, h.0.1) (omega (arith, pairs_none x es h.1))

-- ---- wires in order

-- no text is the first of two wires
abbrev IsApart : List (List ℕ × List ℕ) → Type 0
IsApart [] = Unit {0}
IsApart (x ∷ xs) = AllByRecursion (λ y. bytes_eq x.0 y.0 ≡ false) xs × IsApart xs

-- a wire with a new first text
inserted_count : (x k v : List ℕ) (es : List (List ℕ × List ℕ)) → AllByRecursion (λ e. bytes_eq k e.0 ≡ false) es → times_in x (pair_names (insert_entry (slice_cmp nat_cmp) es k v)) ≡ times_in x (pair_names ((k, v) ∷ es))
inserted_count x k v [] h = refl
inserted_count x k v (e ∷ es) h = go (slice_cmp nat_cmp k e.0) (is_eq-slice_cmp k e.0 ∙ h.0) (inserted_count x k v es h.1)
  where
    go : (o : Ordering) → is_eq o ≡ false → times_in x (pair_names (insert_entry (slice_cmp nat_cmp) es k v)) ≡ times_in x (pair_names ((k, v) ∷ es))
        → times_in x (pair_names (match_ordering o ((k, v) ∷ e ∷ es) ((e.0, v) ∷ es) (e ∷ insert_entry (slice_cmp nat_cmp) es k v))) ≡ times_in x (pair_names ((k, v) ∷ e ∷ es))
    go Less n ih = refl
    go Equal n ih = absurd cc
    go Greater n ih = omega (arith, ih)

-- all wires, where no two have one first text
entered_count : (x : List ℕ) (xs es : List (List ℕ × List ℕ)) → IsApart xs → AllByRecursion (λ y. AllByRecursion (λ e. bytes_eq y.0 e.0 ≡ false) es) xs
    → times_in x (pair_names (fold (λ es y. insert_entry (slice_cmp nat_cmp) es y.0 y.1) es xs)) ≡ times_in x (pair_names es) + times_in x (pair_names xs)
entered_count x [] es a h = omega arith
entered_count x (y ∷ ys) es a h =
    let more = each_both (λ z. bytes_eq y.0 z.0 ≡ false) (λ z. AllByRecursion (λ e. bytes_eq z.0 e.0 ≡ false) es) (λ z. AllByRecursion (λ e. bytes_eq z.0 e.0 ≡ false) (insert_entry (slice_cmp nat_cmp) es y.0 y.1)) ys
    (λ z n k. each_inserted (λ e. bytes_eq z.0 e.0 ≡ false) es y.0 y.1 (bytes_eq_comm z.0 y.0 ∙ n) (λ e p. p) k) a.0 h.1 in
    let rest = entered_count x ys (insert_entry (slice_cmp nat_cmp) es y.0 y.1) a.1 more in
    let one = inserted_count x y.0 y.1 es h.0 in
    omega arith

-- ---- the texts of free names

-- two free names have one text exactly where they are one
pub text_test : (names : List (List ℕ)) (l : ListedNet) → IsPrintable names l → (i j : ℕ) → IsSome (free_among i l.frees) → IsSome (free_among j l.frees) → bytes_eq (name_text names i) (name_text names j) ≡ eqb i j
text_test names l h i j f g =
    both_ways _ _
    (λ t. eq-eqb i j (h.apart i j f g ((bytes_eq-Decides (name_text names i) (name_text names j)).0 t)))
    (λ t. (bytes_eq-Decides (name_text names i) (name_text names j)).1 (ap (name_text names) (eqb-true i j t)))

-- a free name that has a partner
pub is_free : (l : ListedNet) (j : ℕ) (q : Port) → (shown l).partner (port.Name j) ≡ Some q → IsSome (free_among j l.frees)
is_free l j q e = rw e refl

-- the wires have different first texts
wires_apart : (names : List (List ℕ)) (l : ListedNet) → IsPrintable names l → (fs : List (ℕ × Port)) → IsStrictlySortedBy nat_cmp (map (λ (x : ℕ × Port). x.0) fs) → AllByRecursion (λ x. free_among x.0 l.frees ≡ Some x.1) fs → IsApart (filter_map (free_wire names) fs)
wires_apart names l h [] s f = tt
wires_apart names l h (x ∷ fs) s f = go (free_wire names x) refl (wires_apart names l h fs (sorted_tail nat_cmp x.0 (map (λ (z : ℕ × Port). z.0) fs) s) f.1)
  where
    later : (y : List ℕ × List ℕ) → free_wire names x ≡ Some y → (z : ℕ × Port) → nat_cmp x.0 z.0 ≡ Less → free_among z.0 l.frees ≡ Some z.1 → (w : List ℕ × List ℕ) → free_wire names z ≡ Some w → bytes_eq y.0 w.0 ≡ false
    later y e z lt k w g =
        let near : y.0 ≡ name_text names x.0 = (wire_texts names x y e).near in
        let far : w.0 ≡ name_text names z.0 = (wire_texts names z w g).near in
        let other : eqb x.0 z.0 ≡ false = (let n : eqb z.0 x.0 ≡ false = lesser_apart x.0 z.0 lt in false_from_ne_true _ (λ t. flip (eqb-true x.0 z.0 t) n)) in
        rw (near, far) (text_test names l h x.0 z.0 (is_free l x.0 x.1 f.0) (is_free l z.0 z.1 k) ∙ other)
      where
        flip : x.0 ≡ z.0 → eqb z.0 x.0 ≡ false → ⊥
        flip e n = let m : eqb z.0 x.0 ≡ true = eq-eqb z.0 x.0 (sym e) in absurd cc

    go : (o : Option (List ℕ × List ℕ)) → free_wire names x ≡ o → IsApart (filter_map (free_wire names) fs) → IsApart (cons_option o (filter_map (free_wire names) fs))
    go None e ih = ih
    go (Some y) e ih = (each_wire names (λ w. bytes_eq y.0 w.0 ≡ false) fs (each_both (λ z. nat_cmp x.0 z.0 ≡ Less) (λ z. free_among z.0 l.frees ≡ Some z.1) _ fs (later y e) (numbers_above x.0 fs s) f.1), ih)

-- so each is entered
wires_count : (names : List (List ℕ)) (l : ListedNet) → IsPrintable names l → (x : List ℕ) → times_in x (pair_names (free_wires names l.frees)) ≡ times_in x (pair_names (filter_map (free_wire names) l.frees))
wires_count names l h x =
    let found = frees_found l.frees h.listing.numbered in
    let ws : List (List ℕ × List ℕ) = filter_map (free_wire names) l.frees in
    entered_count x ws [] (wires_apart names l h l.frees h.listing.numbered found) (none ws) ∙ omega arith
  where
    none : (ws : List (List ℕ × List ℕ)) → AllByRecursion (λ y. AllByRecursion (λ (e : List ℕ × List ℕ). bytes_eq y.0 e.0 ≡ false) []) ws
    none [] = tt
    none (w ∷ ws) = (tt, none ws)

-- ---- a wire's text

-- where one free name alone has it in its wire
owned_once : (names : List (List ℕ)) (x : List ℕ) (j : ℕ) (fs : List (ℕ × Port)) → AllByRecursion (λ f. times_in x (pair_names (cons_option (free_wire names f) [])) ≡ cond (eqb j f.0) 1 0) fs → times_in x (pair_names (filter_map (free_wire names) fs)) ≡ free_count j fs
owned_once names x j [] h = refl
owned_once names x j (f ∷ fs) h = go (free_wire names f) h.0 (owned_once names x j fs h.1)
  where
    go : (o : Option (List ℕ × List ℕ)) → times_in x (pair_names (cons_option o [])) ≡ cond (eqb j f.0) 1 0 → times_in x (pair_names (filter_map (free_wire names) fs)) ≡ free_count j fs
        → times_in x (pair_names (cons_option o (filter_map (free_wire names) fs))) ≡ cond (eqb j f.0) 1 0 + free_count j fs
    go None e ih = let z : 0 ≡ cond (eqb j f.0) 1 0 = e in omega (arith, z, ih)
    go (Some y) e ih = let z : cond (bytes_eq x y.0) 1 0 + (cond (bytes_eq x y.1) 1 0 + 0) ≡ cond (eqb j f.0) 1 0 = e in omega (arith, z, ih)

-- whether the text of a free name is less than that of another
abbrev less : List (List ℕ) → ℕ → ℕ → Bool
less names i j = is_lt (slice_cmp nat_cmp (name_text names i) (name_text names j))

-- of two texts one is less
less_flip : (x y : List ℕ) → bytes_eq x y ≡ false → is_lt (slice_cmp nat_cmp y x) ≡ not (is_lt (slice_cmp nat_cmp x y))
less_flip x y n = ap is_lt (nat_list_cmp_total.antisymm y x) ∙ go (slice_cmp nat_cmp x y) (is_eq-slice_cmp x y ∙ n)
  where
    go : (o : Ordering) → is_eq o ≡ false → is_lt (ordering_reverse o) ≡ not (is_lt o)
    go Less e = refl
    go Equal e = absurd cc
    go Greater e = refl

-- the occurrences of a text in one wire
wire_count : (x u v : List ℕ) (b : Bool) → times_in x (pair_names (cons_option (if b then Some (u, v) else None) [])) ≡ cond b (cond (bytes_eq x u) 1 0 + cond (bytes_eq x v) 1 0) 0
wire_count x u v true = omega arith
wire_count x u v false = refl

-- one name has one partner
one_name : (i k : ℕ) → ◌≡◌ {A = Option Port} (Some (port.Name i)) (Some (port.Name k)) → i ≡ k
one_name i k e = cc

-- a free name that is linked to a port of an agent is linked to no free name
no_name : (n : Name) (a k : ℕ) → ◌≡◌ {A = Option Port} (Some (Of n a)) (Some (port.Name k)) → ⊥
no_name n a k e = cc

module _ (names : List (List ℕ)) (l : ListedNet) (h : IsPrintable names l) (j m : ℕ) (e : (shown l).partner (port.Name j) ≡ Some (port.Name m)) where
  back : (shown l).partner (port.Name m) ≡ Some (port.Name j)
  back = (h.wired (port.Name j) (port.Name m) e).1

  two : eqb j m ≡ false
  two = false_from_ne_true _ (λ t. (h.wired (port.Name j) (port.Name m) e).0 (ap port.Name (sym (eqb-true j m t))))

  two_back : eqb m j ≡ false
  two_back = false_from_ne_true _ (λ t. (h.wired (port.Name j) (port.Name m) e).0 (ap port.Name (eqb-true m j t)))

  flipped : less names m j ≡ not (less names j m)
  flipped = less_flip (name_text names j) (name_text names m) (text_test names l h j m (is_free l j (port.Name m) e) (is_free l m (port.Name j) back) ∙ two)

  -- the one of the two whose entry the wire is
  abbrev owner : Bool → ℕ
  owner t = cond t j m

  -- what the entry of a free name has of the text
  entry_count : (i k : ℕ) (t : Bool) → less names j m ≡ t → (shown l).partner (port.Name i) ≡ Some (port.Name k) → times_in (name_text names j) (pair_names (cons_option (free_wire names (i, port.Name k)) [])) ≡ cond (eqb (owner t) i) 1 0
  entry_count i k t lt g =
      let free_j = is_free l j (port.Name m) e in
      let free_i = is_free l i (port.Name k) g in
      let other = (h.wired (port.Name i) (port.Name k) g).1 in
      let free_k = is_free l k (port.Name i) other in
      wire_count (name_text names j) (name_text names i) (name_text names k) (less names i k)
      ∙ rw (text_test names l h j i free_j free_i, text_test names l h j k free_j free_k) (by (eqb j i) (eqb j k) refl refl other)
    where
      mine : j ≡ i → m ≡ k → (s : Bool) → cond s (cond true 1 0 + cond (eqb j k) 1 0) 0 ≡ cond (eqb (owner s) i) 1 0
      mine c d true = let u : eqb j k ≡ false = ap (eqb j) (sym d) ∙ two in let v : eqb j i ≡ true = eq-eqb j i c in rw (u, v) refl
      mine c d false = let v : eqb m i ≡ false = ap (eqb m) (sym c) ∙ two_back in rw v refl

      theirs : j ≡ k → m ≡ i → eqb j i ≡ false → (s : Bool) → cond (not s) (cond false 1 0 + cond true 1 0) 0 ≡ cond (eqb (owner s) i) 1 0
      theirs c d a true = rw a refl
      theirs c d a false = let v : eqb m i ≡ true = eq-eqb m i d in rw v refl

      neither : (s r : Bool) → eqb j i ≡ false → eqb m i ≡ false → cond r (cond false 1 0 + cond false 1 0) 0 ≡ cond (eqb (owner s) i) 1 0
      neither true true a b = rw a refl
      neither true false a b = rw a refl
      neither false true a b = rw b refl
      neither false false a b = rw b refl

      by : (a b : Bool) → eqb j i ≡ a → eqb j k ≡ b → (shown l).partner (port.Name k) ≡ Some (port.Name i) → cond (less names i k) (cond a 1 0 + cond b 1 0) 0 ≡ cond (eqb (owner t) i) 1 0
      by true b f g' o =
          let c : j ≡ i = eqb-true j i f in
          let d : m ≡ k = one_name m k (sym e ∙ ap (λ z. (shown l).partner (port.Name z)) c ∙ g) in
          let s : less names i k ≡ t = ap₂ (less names) (sym c) (sym d) ∙ lt in
          rw (s, sym g') (mine c d t)
      by false true f g' o =
          let c : j ≡ k = eqb-true j k g' in
          let d : m ≡ i = one_name m i (sym e ∙ ap (λ z. (shown l).partner (port.Name z)) c ∙ o) in
          let s : less names i k ≡ not t = ap₂ (less names) (sym d) (sym c) ∙ flipped ∙ ap not lt in
          rw s (theirs c d f t)
      by false false f g' o =
          let n : eqb m i ≡ false = false_from_ne_true _ (λ u. clash (one_name j k (sym back ∙ ap (λ z. (shown l).partner (port.Name z)) (eqb-true m i u) ∙ g))) in
          neither t (less names i k) f n
        where
          clash : j ≡ k → ⊥
          clash c = let u : eqb j k ≡ true = eq-eqb j k c in let v : true ≡ false = sym u ∙ g' in cc

  -- the entry of one that is linked to a port of an agent has none
  other_count : (i a : ℕ) (n : Name) (t : Bool) → (shown l).partner (port.Name i) ≡ Some (Of n a) → times_in (name_text names j) (pair_names (cons_option (free_wire names (i, Of n a)) [])) ≡ cond (eqb (owner t) i) 1 0
  other_count i a n true g = let v : eqb j i ≡ false = false_from_ne_true _ (λ u. no_name n a m (sym g ∙ ap (λ z. (shown l).partner (port.Name z)) (sym (eqb-true j i u)) ∙ e)) in rw v refl
  other_count i a n false g = let v : eqb m i ≡ false = false_from_ne_true _ (λ u. no_name n a j (sym g ∙ ap (λ z. (shown l).partner (port.Name z)) (sym (eqb-true m i u)) ∙ back)) in rw v refl

  -- the text of a free name that is linked to another stands in one wire, once
  pub paired_once : times_in (name_text names j) (pair_names (free_wires names l.frees)) ≡ 1
  paired_once =
      wires_count names l h (name_text names j)
      ∙ owned_once names (name_text names j) (owner (less names j m)) l.frees (each_so _ _ l.frees entry (frees_found l.frees h.listing.numbered))
      ∙ found (less names j m)
    where
      entry : (f : ℕ × Port) → free_among f.0 l.frees ≡ Some f.1 → times_in (name_text names j) (pair_names (cons_option (free_wire names f) [])) ≡ cond (eqb (owner (less names j m)) f.0) 1 0
      entry (i, Of n a) g = other_count i a n (less names j m) g
      entry (i, port.Name k) g = entry_count i k (less names j m) refl g

      found : (t : Bool) → free_count (owner t) l.frees ≡ 1
      found true = free_once j l.frees (port.Name m) h.listing.numbered e
      found false = free_once m l.frees (port.Name j) h.listing.numbered back
