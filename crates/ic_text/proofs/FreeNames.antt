-- The wires between the free names of a listed net, by their texts.
use Rattle.std.proofs.Common.{◌≡◌, ℕ, ◌+◌, ◌≤◌, Bool, true, false, List, [], ◌∷◌, map, ◌⊎◌, inl, inr, refl, sym, ap, subst, ◌∙◌, arith, Option, Some, None, eqb}
use Rattle.std.specs.Prelude.{All, cond, if◌then◌else◌, IsSome, is_some}
use Rattle.std.specs.declared.cmp.Ordering.{Ordering}
use Rattle.std.specs.declared.cmp.Ordering.TheVariants.{Less, Equal, Greater}
use Rattle.std.specs.Ordering.{nat_cmp, is_lt, ordering_reverse}
use Rattle.std.specs.Cmp.Lexicographic.{slice_cmp, nat_list_cmp_total}
use Rattle.std.specs.List.{filter_map, cons_option}
use Rattle.std.specs.List.Sorted.{IsStrictlySortedBy}
use Rattle.std.proofs.lemmas.Bool.{eqb-true, eq-eqb, ne_eqb}
use Rattle.std.proofs.lemmas.Cmp.{ranked}
use Rattle.std.proofs.lemmas.Map.Keys.{sorted_tail}
use Rattle.std.proofs.lemmas.Map.Views.{All-after_first}
use Rattle.ic_name.specs.declared.ports.Port.{Port}
use Rattle.ic_name.specs.declared.ports.Port.TheVariants.{Of}
use Rattle.ic_name.specs.declared.ports.Port.TheVariants as port
use Rattle.ic_theory.specs.Orders.{Pick, here, there, IsIn}
use Rattle.ic_theory.proofs.Picks.{pick-map, in_first, in_more, none_in}
use Rattle.ic_theory.specs.Listed.{ListedNet, free_among, shown}
use Rattle.ic_text.specs.NetText.{name_text, free_wire, free_wires}
use Rattle.ic_text.specs.Printable.{IsPrintable}
use Rattle.ic_text.proofs.Elements.{all-in, in-filter_map, filter_map_cases}
use Rattle.ic_text.proofs.PrintedEntries.{Texts, text_tied, entered_there, entered_only, total, entered_most}

-- ---- the list of free names

-- a free name that is found is in the list
pub free_in : (j : ℕ) (fs : List (ℕ × Port)) {q : Port} → free_among j fs ≡ Some q → IsIn (j, q) fs
free_in j [] h = cc
free_in j (x ∷ xs) {q} h = go (eqb j x.0) refl h (λ k. free_in j xs k)
  where
    go : (t : Bool) → eqb j x.0 ≡ t → (if t then Some x.1 else free_among j xs) ≡ Some q → (free_among j xs ≡ Some q → IsIn (j, q) xs) → IsIn (j, q) (x ∷ xs)
    go true e k ih =
        let f : j ≡ x.0 = eqb-true j x.0 e in
        let g : x.1 ≡ q = cc in
        let same : ◌≡◌ {A = ℕ × Port} x (j, q) = λ u. (sym f u, g u) in
        subst (λ z. IsIn z (x ∷ xs)) same (in_first x xs)
    go false e k ih = in_more x (ih k)

-- the numbers behind a number of the list are others
pub later_apart : (x y : ℕ × Port) (xs : List (ℕ × Port)) → IsStrictlySortedBy nat_cmp (map (λ (z : ℕ × Port). z.0) (x ∷ xs)) → IsIn y xs → y.0 ≡ x.0 → ⊥
later_apart x y xs s i e =
    let others : List ℕ = map (λ (z : ℕ × Port). z.0) xs in
    let below : All (λ q. nat_cmp x.0 q ≡ Less) others = All-after_first nat_cmp x.0 others s in
    let less : nat_cmp x.0 y.0 ≡ Less = all-in (λ q. nat_cmp x.0 q ≡ Less) below (_, pick-map (λ (z : ℕ × Port). z.0) i.1) in
    let k = ranked x.0 y.0 Less (sym less) in
    absurd (omega arith)

-- each free name of the list is found
pub found_free : (y : ℕ × Port) {fs rest : List (ℕ × Port)} → IsStrictlySortedBy nat_cmp (map (λ (z : ℕ × Port). z.0) fs) → Pick y fs rest → free_among y.0 fs ≡ Some y.1
found_free y s here = rw (eq-eqb y.0 y.0 refl) refl
found_free y s (there {y = x} {xs = xs} k) =
    let other : eqb y.0 x.0 ≡ false = ne_eqb y.0 x.0 (λ e. later_apart x y xs s (_, k) e) in
    rw other (found_free y (sorted_tail nat_cmp x.0 (map (λ (z : ℕ × Port). z.0) xs) s) k)

-- ---- texts

-- what is found is there
pub is_there : {X : Type 0} (o : Option X) (x : X) → o ≡ Some x → IsSome o
is_there o x h = ap is_some h

-- a wire between two free names, by the one with the lesser text
pub record FreeWire (names : List (List ℕ)) (l : ListedNet) (x : Texts) : Type 0 where
  pub near : ℕ
  pub other : ℕ
  pub partners : (shown l).partner (port.Name near) ≡ Some (port.Name other)
  pub texts : x ≡ (name_text names near, name_text names other)
  pub ordered : is_lt (slice_cmp nat_cmp (name_text names near) (name_text names other)) ≡ true

-- a free name that has a wire of this kind
record Wired (names : List (List ℕ)) (f : ℕ × Port) (x : Texts) : Type 0 where
  other : ℕ
  partner : f.1 ≡ port.Name other
  texts : x ≡ (name_text names f.0, name_text names other)
  ordered : is_lt (slice_cmp nat_cmp (name_text names f.0) (name_text names other)) ≡ true

wired_of : (names : List (List ℕ)) (f : ℕ × Port) (x : Texts) → free_wire names f ≡ Some x → Wired names f x
wired_of names (j, Of n i) x h = cc
wired_of names (j, port.Name m) x h = go (is_lt (slice_cmp nat_cmp (name_text names j) (name_text names m))) refl h
  where
    go : (b : Bool) → is_lt (slice_cmp nat_cmp (name_text names j) (name_text names m)) ≡ b → (if b then Some (name_text names j, name_text names m) else None) ≡ Some x → Wired names (j, port.Name m) x
    go true e k = record { other = m; partner = refl; texts = cc; ordered = e }
    go false e k = cc

module _ (names : List (List ℕ)) (l : ListedNet) (ok : IsPrintable names l) where
  -- free names with one text are one
  pub same_free : (i j : ℕ) (p q : Port) → (shown l).partner (port.Name i) ≡ Some p → (shown l).partner (port.Name j) ≡ Some q → name_text names i ≡ name_text names j → i ≡ j
  same_free i j p q e f h = ok.apart i j (is_there _ p e) (is_there _ q f) h

  -- a pair that is written is a wire
  of_free : (f : ℕ × Port) (x : Texts) → IsIn f l.frees → free_wire names f ≡ Some x → FreeWire names l x
  of_free f x i h =
      let w = wired_of names f x h in
      record { near = f.0; other = w.other; partners = found_free f ok.listing.numbered i.1 ∙ ap Some w.partner; texts = w.texts; ordered = w.ordered }

  pub free_wire_of : {x : Texts} → IsIn x (free_wires names l.frees) → FreeWire names l x
  free_wire_of {x} i = go (entered_only (filter_map (free_wire names) l.frees) [] i)
    where
      go : IsIn x (filter_map (free_wire names) l.frees) ⊎ IsIn x [] → FreeWire names l x
      go (inl j) = let r = filter_map_cases (free_wire names) l.frees j in of_free r.0 x r.1 r.2
      go (inr j) = absurd (none_in j)

  -- the wires of one name are one
  one_free : {x y : Texts} → FreeWire names l x → FreeWire names l y → x.0 ≡ y.0 → x ≡ y
  one_free {x} {y} v w h =
      let t : name_text names v.near ≡ name_text names w.near = sym (ap (λ (z : Texts). z.0) v.texts) ∙ h ∙ ap (λ (z : Texts). z.0) w.texts in
      let e : v.near ≡ w.near = same_free v.near w.near _ _ v.partners w.partners t in
      let p : ◌≡◌ {A = Option Port} (Some (port.Name v.other)) (Some (port.Name w.other)) = sym v.partners ∙ ap (λ z. (shown l).partner (port.Name z)) e ∙ w.partners in
      let f : v.other ≡ w.other = cc in
      v.texts ∙ (λ u. (name_text names (e u), name_text names (f u))) ∙ sym w.texts

  -- each wire between free names is written, by the one with the lesser text
  pub free_wire_there : (j m : ℕ) → (shown l).partner (port.Name j) ≡ Some (port.Name m) → is_lt (slice_cmp nat_cmp (name_text names j) (name_text names m)) ≡ true
      → IsIn (name_text names j, name_text names m) (free_wires names l.frees)
  free_wire_there j m e less =
      let i = free_in j l.frees e in
      let is : free_wire names (j, port.Name m) ≡ Some (name_text names j, name_text names m) = rw less refl in
      let there_is = in-filter_map (free_wire names) i.1 is in
      let w = of_free (j, port.Name m) (name_text names j, name_text names m) i is in
      entered_there [] (λ z k. let r = filter_map_cases (free_wire names) l.frees k in one_free w (of_free r.0 z r.1 r.2)) there_is.1

  -- of two free names that are partners one has the lesser text
  pub less_either : (j m : ℕ) → (shown l).partner (port.Name j) ≡ Some (port.Name m)
      → (is_lt (slice_cmp nat_cmp (name_text names j) (name_text names m)) ≡ true) ⊎ (is_lt (slice_cmp nat_cmp (name_text names m) (name_text names j)) ≡ true)
  less_either j m e = go (slice_cmp nat_cmp (name_text names j) (name_text names m)) refl
    where
      go : (o : Ordering) → slice_cmp nat_cmp (name_text names j) (name_text names m) ≡ o
          → (is_lt (slice_cmp nat_cmp (name_text names j) (name_text names m)) ≡ true) ⊎ (is_lt (slice_cmp nat_cmp (name_text names m) (name_text names j)) ≡ true)
      go Less h = inl (ap is_lt h)
      go Equal h = let w = ok.wired (port.Name j) (port.Name m) e in absurd (w.0 (ap port.Name (sym (same_free j m _ _ e w.1 (text_tied _ _ h)))))
      go Greater h = inr (ap is_lt (nat_list_cmp_total.antisymm (name_text names m) (name_text names j) ∙ ap ordering_reverse h))

-- ---- sums

-- how often a number is in the list
abbrev times : ℕ → List (ℕ × Port) → ℕ
times c [] = 0
times c (x ∷ xs) = cond (eqb c x.0) 1 0 + times c xs

-- a number that is none of the list's is there no time
times_none : (c : ℕ) (xs : List (ℕ × Port)) → ((x : ℕ × Port) → IsIn x xs → x.0 ≡ c → ⊥) → times c xs ≡ 0
times_none c [] h = refl
times_none c (x ∷ xs) h =
    let e : eqb c x.0 ≡ false = ne_eqb c x.0 (λ f. h x (in_first x xs) (sym f)) in
    rw e (omega (arith, times_none c xs (λ y i. h y (in_more x i))))

-- each is there once at most
times_once : (c : ℕ) (xs : List (ℕ × Port)) → IsStrictlySortedBy nat_cmp (map (λ (z : ℕ × Port). z.0) xs) → times c xs ≤ 1
times_once c [] s = omega arith
times_once c (x ∷ xs) s = go (eqb c x.0) refl (times_once c xs (sorted_tail nat_cmp x.0 (map (λ (z : ℕ × Port). z.0) xs) s))
  where
    go : (b : Bool) → eqb c x.0 ≡ b → times c xs ≤ 1 → cond b 1 0 + times c xs ≤ 1
    go true e ih = let f : c ≡ x.0 = eqb-true c x.0 e in omega (arith, times_none c xs (λ y i g. later_apart x y xs s i (g ∙ f)))
    go false e ih = omega (arith, ih)

-- where only the wires of one name add anything, and one at most, the sum is as often as the name is there
times_most : (names : List (List ℕ)) (f : Texts → ℕ) (c : ℕ) (xs : List (ℕ × Port)) → ((x : ℕ × Port) (z : Texts) → IsIn x xs → free_wire names x ≡ Some z → f z ≤ cond (eqb c x.0) 1 0)
    → total f (filter_map (free_wire names) xs) ≤ times c xs
times_most names f c [] h = omega arith
times_most names f c (x ∷ xs) h = go (free_wire names x) refl (times_most names f c xs (λ y z i e. h y z (in_more x i) e))
  where
    go : (o : Option Texts) → free_wire names x ≡ o → total f (filter_map (free_wire names) xs) ≤ times c xs → total f (cons_option o (filter_map (free_wire names) xs)) ≤ cond (eqb c x.0) 1 0 + times c xs
    go None e ih = omega (arith, ih)
    go (Some z) e ih = omega (arith, ih, h x z (in_first x xs) e)

-- so over all wires it is one at most
pub free_most : (names : List (List ℕ)) (l : ListedNet) (ok : IsPrintable names l) (f : Texts → ℕ) (c : ℕ)
    → ((x : Texts) (w : FreeWire names l x) → f x ≤ cond (eqb c w.near) 1 0) → total f (free_wires names l.frees) ≤ 1
unfolding of_free
free_most names l ok f c h =
    let a = times_most names f c l.frees (λ x z i e. h z (of_free names l ok x z i e)) in
    omega (arith, a, times_once c l.frees ok.listing.numbered, entered_most f (filter_map (free_wire names) l.frees) [])
