-- The free names of a net, and the wires between two of them.
use Rattle.std.proofs.Common.{◌≡◌, ℕ, Bool, true, false, List, [], ◌∷◌, map, fold, filter_map, Option, Some, None, Ordering, eqb, if◌then◌else◌, refl, sym, ap, ◌∙◌, eq-eqb}
use Rattle.std.specs.BTreeMap.{insert_entry}
use Rattle.std.specs.List.{AllByRecursion, cons_option}
use Rattle.std.specs.List.Sorted.{IsStrictlySortedBy}
use Rattle.std.specs.Ordering.{nat_cmp, is_lt, match_ordering}
use Rattle.std.specs.Cmp.Lexicographic.{slice_cmp}
use Rattle.std.specs.declared.cmp.Ordering.TheVariants.{Less, Equal, Greater}
use Rattle.std.proofs.lemmas.Bool.{eqb-true}
use Rattle.std.proofs.lemmas.Cmp.{nat_cmp_total, tied_itself}
use Rattle.std.proofs.lemmas.Map.Keys.{sorted_head, sorted_tail}
use Rattle.ic_name.specs.declared.ports.Port.{Port}
use Rattle.ic_name.specs.declared.ports.Port.TheVariants.{Of}
use Rattle.ic_name.specs.declared.ports.Port.TheVariants as port
use Rattle.ic_theory.specs.Listed.{ListedNet, free_among, shown}
use Rattle.ic_text.specs.NetText.{name_text, free_wire, free_wires}
use Rattle.ic_text.specs.Printable.{IsPrintable}
use Rattle.ic_text.proofs.Everywhere.{each_both, each_so, each_map}

-- ---- free names by number

-- a lesser number is another
pub lesser_apart : (i j : ℕ) → nat_cmp i j ≡ Less → eqb j i ≡ false
lesser_apart i j lt = go (eqb j i) refl
  where
    clash : Less ≡ Equal → ⊥
    clash e = cc

    go : (b : Bool) → eqb j i ≡ b → b ≡ false
    go false e = refl
    go true e = absurd (clash (sym lt ∙ ap (nat_cmp i) (eqb-true j i e) ∙ tied_itself nat_cmp_total i))

-- the numbers behind one in order
pub numbers_above : (j : ℕ) (fs : List (ℕ × Port)) → IsStrictlySortedBy nat_cmp (j ∷ map (λ (x : ℕ × Port). x.0) fs) → AllByRecursion (λ x. nat_cmp j x.0 ≡ Less) fs
numbers_above j fs s = each_map (λ i. nat_cmp j i ≡ Less) (λ (x : ℕ × Port). x.0) fs (sorted_head nat_cmp j (map (λ (x : ℕ × Port). x.0) fs) s)

-- each free name is found by its number
pub frees_found : (fs : List (ℕ × Port)) → IsStrictlySortedBy nat_cmp (map (λ (x : ℕ × Port). x.0) fs) → AllByRecursion (λ x. free_among x.0 fs ≡ Some x.1) fs
frees_found [] s = tt
frees_found (x ∷ fs) s = (first, each_both (λ y. nat_cmp x.0 y.0 ≡ Less) (λ y. free_among y.0 fs ≡ Some y.1) (λ y. free_among y.0 (x ∷ fs) ≡ Some y.1) fs later (numbers_above x.0 fs s) (frees_found fs (sorted_tail nat_cmp x.0 (map (λ (y : ℕ × Port). y.0) fs) s)))
  where
    first : free_among x.0 (x ∷ fs) ≡ Some x.1
    first = rw (eq-eqb x.0 x.0 refl) refl

    later : (y : ℕ × Port) → nat_cmp x.0 y.0 ≡ Less → free_among y.0 fs ≡ Some y.1 → free_among y.0 (x ∷ fs) ≡ Some y.1
    later y lt h = rw (lesser_apart x.0 y.0 lt) h

-- ---- wires between free names

-- what holds of each wire holds after one more
pub each_inserted : (P : List ℕ × List ℕ → Type 0) (es : List (List ℕ × List ℕ)) (k v : List ℕ) → P (k, v) → ((e : List ℕ × List ℕ) → P e → P (e.0, v)) → AllByRecursion P es → AllByRecursion P (insert_entry (slice_cmp nat_cmp) es k v)
each_inserted P [] k v p q h = (p, tt)
each_inserted P (e ∷ es) k v p q h = go (slice_cmp nat_cmp k e.0) (each_inserted P es k v p q h.1)
  where
    go : (o : Ordering) → AllByRecursion P (insert_entry (slice_cmp nat_cmp) es k v) → AllByRecursion P (match_ordering o ((k, v) ∷ e ∷ es) ((e.0, v) ∷ es) (e ∷ insert_entry (slice_cmp nat_cmp) es k v))
    go Less ih = (p, (h.0, h.1))
    go Equal ih = (q e h.0, h.1)
    go Greater ih = (h.0, ih)

-- what holds of the two texts of each holds after all
each_entered : (P : List ℕ → Type 0) (xs es : List (List ℕ × List ℕ)) → AllByRecursion (λ x. P x.0 × P x.1) xs → AllByRecursion (λ x. P x.0 × P x.1) es → AllByRecursion (λ x. P x.0 × P x.1) (fold (λ es x. insert_entry (slice_cmp nat_cmp) es x.0 x.1) es xs)
each_entered P [] es h k = k
each_entered P (x ∷ xs) es h k = each_entered P xs (insert_entry (slice_cmp nat_cmp) es x.0 x.1) h.1 (each_inserted (λ e. P e.0 × P e.1) es x.0 x.1 h.0 (λ e p. (p.0, h.0.1)) k)

-- what holds of each wire by its free name
pub each_wire : (names : List (List ℕ)) (P : List ℕ × List ℕ → Type 0) (fs : List (ℕ × Port)) → AllByRecursion (λ f. (y : List ℕ × List ℕ) → free_wire names f ≡ Some y → P y) fs → AllByRecursion P (filter_map (free_wire names) fs)
each_wire names P [] h = tt
each_wire names P (f ∷ fs) h = go (free_wire names f) refl (each_wire names P fs h.1)
  where
    go : (o : Option (List ℕ × List ℕ)) → free_wire names f ≡ o → AllByRecursion P (filter_map (free_wire names) fs) → AllByRecursion P (cons_option o (filter_map (free_wire names) fs))
    go None e ih = ih
    go (Some y) e ih = (h.0 y e, ih)

-- a wire between two free names, with its texts
pub record FreeWire (names : List (List ℕ)) (f : ℕ × Port) (y : List ℕ × List ℕ) : Type 0 where
  pub other : ℕ
  pub partner : f.1 ≡ port.Name other
  pub near : y.0 ≡ name_text names f.0
  pub far : y.1 ≡ name_text names other

pub wire_texts : (names : List (List ℕ)) (f : ℕ × Port) (y : List ℕ × List ℕ) → free_wire names f ≡ Some y → FreeWire names f y
wire_texts names (j, Of n i) y e = cc
wire_texts names (j, port.Name m) y e = go (is_lt (slice_cmp nat_cmp (name_text names j) (name_text names m))) e
  where
    go : (b : Bool) → (if b then Some (name_text names j, name_text names m) else None) ≡ Some y → FreeWire names (j, port.Name m) y
    go true e = let s : ◌≡◌ {A = List ℕ × List ℕ} (name_text names j, name_text names m) y = cc in record { other = m; partner = refl; near = ap (λ (z : List ℕ × List ℕ). z.0) (sym s); far = ap (λ (z : List ℕ × List ℕ). z.1) (sym s) }
    go false e = cc

-- what holds of the text of each free name that is linked to another holds of the texts of the wires between two
pub each_free_text : (names : List (List ℕ)) (l : ListedNet) → IsPrintable names l → (P : List ℕ → Type 0) → ((j m : ℕ) → (shown l).partner (port.Name j) ≡ Some (port.Name m) → P (name_text names j)) → AllByRecursion (λ x. P x.0 × P x.1) (free_wires names l.frees)
each_free_text names l h P f =
    each_entered P (filter_map (free_wire names) l.frees) [] (each_wire names (λ x. P x.0 × P x.1) l.frees (each_so _ _ l.frees one (frees_found l.frees h.listing.numbered))) tt
  where
    one : (x : ℕ × Port) → free_among x.0 l.frees ≡ Some x.1 → (y : List ℕ × List ℕ) → free_wire names x ≡ Some y → P y.0 × P y.1
    one x e y w =
        let t = wire_texts names x y w in
        let linked : (shown l).partner (port.Name x.0) ≡ Some (port.Name t.other) = e ∙ ap (λ p. Some p) t.partner in
        (rw t.near (f x.0 t.other linked), rw t.far (f t.other x.0 (h.wired (port.Name x.0) (port.Name t.other) linked).1))
