-- The list of the names in order of first occurrence: each name of the text is there once, and has its place as number.
use Rattle.std.proofs.Common.{◌≡◌, ℕ, zero, suc, ◌+◌, ◌≤◌, ◌<◌, Bool, true, false, cond, List, [], ◌∷◌, length, refl, sym, ap, ◌∙◌, arith, eqb}
use Rattle.std.proofs.lemmas.Bool.Decides.{nat_tests, same_from_decides}
use Rattle.std.proofs.lemmas.List.Recursion.{is_count_by}
use Rattle.std.proofs.lemmas.Slice.Eq.{bytes_eq-Decides}
use Rattle.std.specs.List.{fold, position_or_len}
use Rattle.std.specs.Str.{bytes_eq}
use Rattle.ic_text.specs.Grammar.{add, distinct, occurs}
use Rattle.ic_text.proofs.LinkEnds.{told}

-- equal bytes either way
pub bytes_eq_comm : (x y : List ℕ) → bytes_eq x y ≡ bytes_eq y x
bytes_eq_comm x y = same_from_decides (bytes_eq x y) (bytes_eq y x) (bytes_eq-Decides x y) (flip (bytes_eq-Decides y x))
  where
    flip : (bytes_eq y x ≡ true → y ≡ x) × (y ≡ x → bytes_eq y x ≡ true) → (bytes_eq y x ≡ true → x ≡ y) × (x ≡ y → bytes_eq y x ≡ true)
    flip d = (λ h. sym (d.0 h), λ e. d.1 (sym e))

-- a name is itself
bytes_eq_self : (x : List ℕ) → bytes_eq x x ≡ true
bytes_eq_self x = (bytes_eq-Decides x x).1 refl

-- how often a name occurs, by recursion
abbrev pub times_in : List ℕ → List (List ℕ) → ℕ
times_in x [] = 0
times_in x (y ∷ ys) = cond (bytes_eq x y) 1 0 + times_in x ys

-- the two counts agree
pub occurs_is : (x : List ℕ) (ys : List (List ℕ)) → times_in x ys ≡ occurs x ys
occurs_is x ys = is_count_by (times_in x) (bytes_eq x) refl (λ y zs. by_test (bytes_eq x y) (times_in x zs)) ys
  where
    by_test : (b : Bool) (n : ℕ) → cond b 1 0 + n ≡ cond b (1 + n) n
    by_test true n = refl
    by_test false n = omega arith

-- ---- one name more

-- no name comes in but the one that is added, and that once
add_most : (x y : List ℕ) (ys : List (List ℕ)) → times_in x (add y ys) ≤ times_in x ys + cond (bytes_eq x y) 1 0
add_most x y [] = omega arith
add_most x y (z ∷ zs) = by_test (bytes_eq y z) (add_most x y zs)
  where
    by_test : (b : Bool) → times_in x (add y zs) ≤ times_in x zs + cond (bytes_eq x y) 1 0
        → times_in x (cond b (z ∷ zs) (z ∷ add y zs)) ≤ times_in x (z ∷ zs) + cond (bytes_eq x y) 1 0
    by_test true ih = omega arith
    by_test false ih = omega (arith, ih)

-- no name goes
add_least : (x y : List ℕ) (ys : List (List ℕ)) → times_in x ys ≤ times_in x (add y ys)
add_least x y [] = omega arith
add_least x y (z ∷ zs) = by_test (bytes_eq y z) (add_least x y zs)
  where
    by_test : (b : Bool) → times_in x zs ≤ times_in x (add y zs) → times_in x (z ∷ zs) ≤ times_in x (cond b (z ∷ zs) (z ∷ add y zs))
    by_test true ih = omega arith
    by_test false ih = omega (arith, ih)

-- the name is there
add_has : (y : List ℕ) (ys : List (List ℕ)) → 1 ≤ times_in y (add y ys)
add_has y [] = rw (bytes_eq_self y) (omega arith)
add_has y (z ∷ zs) = by_test (bytes_eq y z) refl (add_has y zs)
  where
    by_test : (b : Bool) → bytes_eq y z ≡ b → 1 ≤ times_in y (add y zs) → 1 ≤ times_in y (cond b (z ∷ zs) (z ∷ add y zs))
    by_test true e ih = rw e (omega arith)
    by_test false e ih = omega (arith, ih)

-- a name that was there once or not is there once
add_once : (x y : List ℕ) (ys : List (List ℕ)) → times_in x ys ≤ 1 → times_in x (add y ys) ≤ 1
add_once x y [] h = by_test (bytes_eq x y)
  where
    by_test : (b : Bool) → cond b 1 0 + 0 ≤ 1
    by_test true = omega arith
    by_test false = omega arith
add_once x y (z ∷ zs) h = by_test (bytes_eq y z) refl (bytes_eq x z) refl (add_once x y zs)
  where
    by_test : (b : Bool) → bytes_eq y z ≡ b → (c : Bool) → bytes_eq x z ≡ c → (times_in x zs ≤ 1 → times_in x (add y zs) ≤ 1) → times_in x (cond b (z ∷ zs) (z ∷ add y zs)) ≤ 1
    by_test true e c f ih = h
    by_test false e false f ih = rw f (omega (arith, ih (omega (arith, h))))
    by_test false e true f ih =
        let g : x ≡ z = (bytes_eq-Decides x z).0 f in
        let k : bytes_eq x y ≡ false = bytes_eq_comm x y ∙ ap (bytes_eq y) g ∙ e in
        let m : times_in x (add y zs) ≤ times_in x zs + 0 = rw k at (add_most x y zs) in
        let n : 1 + times_in x zs ≤ 1 = rw f at h in
        rw f (omega (arith, m, n))

-- ---- all names

-- no name comes in but those of the text
fold_most : (x : List ℕ) (xs ys : List (List ℕ)) → times_in x (fold (λ ys y. add y ys) ys xs) ≤ times_in x ys + times_in x xs
fold_most x [] ys = omega arith
fold_most x (y ∷ xs) ys = omega (arith, fold_most x xs (add y ys), add_most x y ys)

-- none comes in twice
fold_once : (x : List ℕ) (xs ys : List (List ℕ)) → times_in x ys ≤ 1 → times_in x (fold (λ ys y. add y ys) ys xs) ≤ 1
fold_once x [] ys h = h
fold_once x (y ∷ xs) ys h = fold_once x xs (add y ys) (add_once x y ys h)

-- none goes
fold_keeps : (x : List ℕ) (xs ys : List (List ℕ)) → times_in x ys ≤ times_in x (fold (λ ys y. add y ys) ys xs)
fold_keeps x [] ys = omega arith
fold_keeps x (y ∷ xs) ys = omega (arith, fold_keeps x xs (add y ys), add_least x y ys)

-- each name of the text comes in
fold_has : (x : List ℕ) (xs ys : List (List ℕ)) → 1 ≤ times_in x xs → 1 ≤ times_in x (fold (λ ys y. add y ys) ys xs)
fold_has x [] ys h = absurd (omega (arith, h))
fold_has x (y ∷ xs) ys h = by_test (bytes_eq x y) refl (fold_has x xs (add y ys))
  where
    by_test : (b : Bool) → bytes_eq x y ≡ b → (1 ≤ times_in x xs → 1 ≤ times_in x (fold (λ ys y. add y ys) (add y ys) xs)) → 1 ≤ times_in x (fold (λ ys y. add y ys) (add y ys) xs)
    by_test true e ih =
        let g : times_in x (add y ys) ≡ times_in y (add y ys) = ap (λ (w : List ℕ). times_in w (add y ys)) ((bytes_eq-Decides x y).0 e) in
        omega (arith, fold_keeps x xs (add y ys), add_has y ys, g)
    by_test false e ih = ih (let k = rw e at h in omega (arith, k))

-- a name of the list is in the text
pub listed_occurs : (x : List ℕ) (xs : List (List ℕ)) → times_in x (distinct xs) ≤ times_in x xs
listed_occurs x xs = omega (arith, fold_most x xs [])

-- no name is in the list twice
pub listed_once : (x : List ℕ) (xs : List (List ℕ)) → times_in x (distinct xs) ≤ 1
listed_once x xs = fold_once x xs [] (omega arith)

-- a name of the text is in the list
pub occurs_listed : (x : List ℕ) (xs : List (List ℕ)) → 1 ≤ times_in x xs → 1 ≤ times_in x (distinct xs)
occurs_listed x xs h = fold_has x xs [] h

-- ---- numbers

-- a name of the list has a number below its length
pub number_below : (x : List ℕ) (ys : List (List ℕ)) → 1 ≤ times_in x ys → position_or_len (bytes_eq x) ys < length ys
number_below x [] h = absurd (omega (arith, h))
number_below x (y ∷ ys) h = by_test (bytes_eq x y) refl (number_below x ys)
  where
    by_test : (b : Bool) → bytes_eq x y ≡ b → (1 ≤ times_in x ys → position_or_len (bytes_eq x) ys < length ys) → position_or_len (bytes_eq x) (y ∷ ys) < length (y ∷ ys)
    by_test true e ih = rw e (omega arith)
    by_test false e ih = let k = rw e at h in let m = ih (omega (arith, k)) in rw e (omega (arith, m))

-- equal numbers, one more on both sides
eqb_behind : (m n : ℕ) → eqb (suc m) (1 + n) ≡ eqb m n
eqb_behind m n = by_tests (eqb (suc m) (1 + n)) (eqb m n) refl refl
  where
    by_tests : (b c : Bool) → eqb (suc m) (1 + n) ≡ b → eqb m n ≡ c → b ≡ c
    by_tests true true e f = refl
    by_tests false false e f = refl
    by_tests true false e f = absurd (grind (arith, nat_tests))
    by_tests false true e f = absurd (grind (arith, nat_tests))

-- the name that has a number
pub record Owner (ys : List (List ℕ)) (j : ℕ) : Type 0 where
  pub text : List ℕ
  pub listed : 1 ≤ times_in text ys
  pub only : (x : List ℕ) → eqb j (position_or_len (bytes_eq x) ys) ≡ bytes_eq text x

-- each number below the length has one
pub owner : (ys : List (List ℕ)) → ((x : List ℕ) → times_in x ys ≤ 1) → (j : ℕ) → j < length ys → Owner ys j
owner [] h j lt = absurd (omega (arith, lt))
owner (y ∷ ys) h zero lt = record { text = y; listed = rw (bytes_eq_self y) (omega arith); only = λ x. first x (bytes_eq x y) refl }
  where
    first : (x : List ℕ) (b : Bool) → bytes_eq x y ≡ b → eqb 0 (position_or_len (bytes_eq x) (y ∷ ys)) ≡ bytes_eq y x
    first x true e = rw (bytes_eq_comm y x) (rw e refl)
    first x false e = rw (bytes_eq_comm y x) (rw e (grind (arith, nat_tests)))
owner (y ∷ ys) h (suc j) lt = behind (owner ys (λ x. omega (arith, h x)) j (omega (arith, lt)))
  where
    behind : Owner ys j → Owner (y ∷ ys) (suc j)
    behind o = record { text = o.text; listed = omega (arith, o.listed); only = λ x. one x (bytes_eq x y) refl }
      where
        apart : (b : Bool) → bytes_eq o.text y ≡ b → b ≡ false
        apart false e = refl
        apart true e = absurd (let k = rw e at (h o.text) in omega (arith, k, o.listed))

        one : (x : List ℕ) (b : Bool) → bytes_eq x y ≡ b → eqb (suc j) (position_or_len (bytes_eq x) (y ∷ ys)) ≡ bytes_eq o.text x
        one x true e =
            let f : x ≡ y = (bytes_eq-Decides x y).0 e in
            let g : bytes_eq o.text x ≡ false = ap (bytes_eq o.text) f ∙ apart (bytes_eq o.text y) refl in
            rw g (rw e (grind (arith, nat_tests)))
        one x false e = rw e (eqb_behind j (position_or_len (bytes_eq x) ys) ∙ o.only x)

-- where the numbers of a text's names are below k, none has a number from k on
pub none_told : (N : List ℕ → ℕ) (j k : ℕ) (xs : List (List ℕ)) → ((x : List ℕ) → 1 ≤ times_in x xs → N x < k) → k ≤ j → told N j xs ≡ 0
none_told N j k [] h le = refl
none_told N j k (y ∷ ys) h le =
    let a : N y < k = h y (rw (bytes_eq_self y) (omega arith)) in
    let b : eqb j (N y) ≡ false = grind (arith, nat_tests) in
    rw b (omega (arith, none_told N j k ys (λ x g. h x (omega (arith, g))) le))

-- where one name alone has the number, it is told as often as the name occurs
pub one_told : (N : List ℕ → ℕ) (j : ℕ) (text : List ℕ) (xs : List (List ℕ)) → ((x : List ℕ) → eqb j (N x) ≡ bytes_eq text x) → told N j xs ≡ times_in text xs
one_told N j text [] h = refl
one_told N j text (y ∷ ys) h = rw (h y) (ap (λ (n : ℕ). cond (bytes_eq text y) 1 0 + n) (one_told N j text ys h))
