-- Tables in order of keys that find the same are one.
use Rattle.std.proofs.Common.{◌≡◌, Bool, true, false, List, [], ◌∷◌, refl, sym, ap, ◌∙◌, Some, None}
use Rattle.std.proofs.lemmas.Cmp.{tied_itself}
use Rattle.std.proofs.lemmas.Map.Keys.{sorted_head, sorted_tail}
use Rattle.std.specs.BTreeMap.{is_at}
use Rattle.std.specs.Cmp.{IsTotalOrder}
use Rattle.std.specs.Map.{keys_of, lookup}
use Rattle.std.specs.List.{AllByRecursion}
use Rattle.std.specs.List.Sorted.{IsStrictlySortedBy}
use Rattle.std.specs.Ordering.{is_eq, ordering_reverse}
use Rattle.std.specs.Prelude.{if◌then◌else◌}
use Rattle.std.specs.declared.cmp.Ordering.{Ordering}
use Rattle.std.specs.declared.cmp.Ordering.TheVariants.{Less, Equal, Greater}

pub equal_true : (r : Ordering) → is_eq r ≡ true → r ≡ Equal
equal_true Less h = cc
equal_true Equal h = refl
equal_true Greater h = cc

module _ {K X : Type 0} {R : K → K → Ordering} (total : IsTotalOrder R) (tied : (x y : K) → R x y ≡ Equal → x ≡ y) where
  -- a key below all is not found
  not_found : (q : K) (es : List (K × X)) → AllByRecursion (λ k. R q k ≡ Less) (keys_of es) → lookup (is_at (R q)) es ≡ None
  not_found q [] h = refl
  not_found q (e ∷ es) h = rw h.0 (not_found q es h.1)

  -- a key that is found is above what is below all
  found_above : (k q : K) (v : X) (es : List (K × X)) → AllByRecursion (λ j. R k j ≡ Less) (keys_of es) → lookup (is_at (R q)) es ≡ Some v → R k q ≡ Less
  found_above k q v [] h f = cc
  found_above k q v (e ∷ es) h f = go (is_eq (R q e.0)) refl f (found_above k q v es h.1)
    where
      go : (b : Bool) → is_eq (R q e.0) ≡ b → (if b then Some e.1 else lookup (is_at (R q)) es) ≡ Some v → (lookup (is_at (R q)) es ≡ Some v → R k q ≡ Less) → R k q ≡ Less
      go true t f ih = rw (tied q e.0 (equal_true (R q e.0) t)) h.0
      go false t f ih = ih f

  first_found : (e : K × X) (es : List (K × X)) → lookup (is_at (R e.0)) (e ∷ es) ≡ Some e.1
  first_found e es = rw (tied_itself total e.0) refl

  -- tables that find the same begin with the same key
  same_first : (x y : K × X) (xs ys : List (K × X)) → AllByRecursion (λ j. R x.0 j ≡ Less) (keys_of xs) → AllByRecursion (λ j. R y.0 j ≡ Less) (keys_of ys)
      → ((q : K) → lookup (is_at (R q)) (x ∷ xs) ≡ lookup (is_at (R q)) (y ∷ ys)) → x.0 ≡ y.0
  same_first x y xs ys below below' h = go (is_eq (R x.0 y.0)) (is_eq (R y.0 x.0)) refl refl (sym (h x.0) ∙ first_found x xs) (h y.0 ∙ first_found y ys)
    where
      go : (b c : Bool) → is_eq (R x.0 y.0) ≡ b → is_eq (R y.0 x.0) ≡ c → (if b then Some y.1 else lookup (is_at (R x.0)) ys) ≡ Some x.1 → (if c then Some x.1 else lookup (is_at (R y.0)) xs) ≡ Some y.1 → x.0 ≡ y.0
      go true c t u f g = tied x.0 y.0 (equal_true (R x.0 y.0) t)
      go false true t u f g = sym (tied y.0 x.0 (equal_true (R y.0 x.0) u))
      go false false t u f g =
          let a : R y.0 x.0 ≡ Less = found_above y.0 x.0 x.1 ys below' f in
          let b : R x.0 y.0 ≡ Less = found_above x.0 y.0 y.1 xs below g in
          let c : R y.0 x.0 ≡ Greater = total.antisymm y.0 x.0 ∙ ap ordering_reverse b in
          cc

  pub same_tables : (es fs : List (K × X)) → IsStrictlySortedBy R (keys_of es) → IsStrictlySortedBy R (keys_of fs) → ((q : K) → lookup (is_at (R q)) es ≡ lookup (is_at (R q)) fs) → es ≡ fs
  same_tables [] [] s t h = refl
  same_tables [] (y ∷ ys) s t h = let e : None ≡ Some y.1 = h y.0 ∙ first_found y ys in cc
  same_tables (x ∷ xs) [] s t h = let e : None ≡ Some x.1 = sym (h x.0) ∙ first_found x xs in cc
  same_tables (x ∷ xs) (y ∷ ys) s t h =
      let below = sorted_head R x.0 (keys_of xs) s in
      let below' = sorted_head R y.0 (keys_of ys) t in
      let key : x.0 ≡ y.0 = same_first x y xs ys below below' h in
      let values : Some x.1 ≡ Some y.1 = sym (first_found x xs) ∙ h x.0 ∙ ap (λ q. lookup (is_at (R q)) (y ∷ ys)) key ∙ first_found y ys in
      let value : x.1 ≡ y.1 = cc in
      let rest = same_tables xs ys (sorted_tail R x.0 (keys_of xs) s) (sorted_tail R y.0 (keys_of ys) t) (λ q. behind key below below' q (is_eq (R q x.0)) refl (h q)) in
      λ i. (key i, value i) ∷ rest i
    where
      behind : x.0 ≡ y.0 → AllByRecursion (λ j. R x.0 j ≡ Less) (keys_of xs) → AllByRecursion (λ j. R y.0 j ≡ Less) (keys_of ys) → (q : K) (b : Bool) → is_eq (R q x.0) ≡ b
          → lookup (is_at (R q)) (x ∷ xs) ≡ lookup (is_at (R q)) (y ∷ ys) → lookup (is_at (R q)) xs ≡ lookup (is_at (R q)) ys
      behind key below below' q true e f =
          let first : q ≡ x.0 = tied q x.0 (equal_true (R q x.0) e) in
          let second : q ≡ y.0 = first ∙ key in
          let none : lookup (is_at (R q)) xs ≡ None = rw first (not_found x.0 xs below) in
          let none' : lookup (is_at (R q)) ys ≡ None = rw second (not_found y.0 ys below') in
          none ∙ sym none'
      behind key below below' q false e f =
          let e' : is_eq (R q y.0) ≡ false = ap (λ k. is_eq (R q k)) (sym key) ∙ e in
          rw (e, e') at f
