-- A printed text has no more names that occur once than the net has free names.
use Rattle.std.proofs.Common.{◌≡◌, ℕ, ◌+◌, ◌≤◌, ◌&&◌, ◌==◌, Bool, true, false, cond, not, if◌then◌else◌, eqb, List, [], ◌∷◌, length, map, inl, inr, Some, refl, sym, ap, ◌∙◌, arith, count_by}
use Rattle.std.specs.Prelude.{IsSome}
use Rattle.std.specs.Str.{bytes_eq}
use Rattle.std.proofs.lemmas.Bool.{eqb-true, and_parts}
use Rattle.std.proofs.lemmas.List.{length-map}
use Rattle.std.proofs.lemmas.List.Recursion.{is_count_by}
use Rattle.std.proofs.lemmas.Slice.Eq.{bytes_eq-Decides}
use Rattle.ic_name.specs.declared.ports.Port.{Port}
use Rattle.ic_theory.specs.Listed.{ListedNet, free_among}
use Rattle.ic_text.specs.Grammar.{distinct, occurs}
use Rattle.ic_text.proofs.Distinct.{times_in, occurs_is, listed_once, bytes_eq_comm}
use Rattle.ic_text.specs.NetText.{name_text}
use Rattle.ic_text.specs.Printable.{IsPrintable}
use Rattle.ic_text.proofs.NameCounts.{printed, IsCountable}
use Rattle.ic_text.proofs.PrintedNames.{Occurs, all_occur, occurring}

-- how many texts pass a test
abbrev passing : (List ℕ → Bool) → List (List ℕ) → ℕ
passing p [] = 0
passing p (x ∷ xs) = cond (p x) 1 0 + passing p xs

passing_is : (p : List ℕ → Bool) (xs : List (List ℕ)) → passing p xs ≡ count_by p xs
passing_is p xs = is_count_by (passing p) p refl (λ x ys. by_test (p x) (passing p ys)) xs
  where
    by_test : (b : Bool) (n : ℕ) → cond b 1 0 + n ≡ cond b (1 + n) n
    by_test true n = refl
    by_test false n = omega arith

-- none do where none can
passing_none : (p : List ℕ → Bool) (xs : List (List ℕ)) → ((x : List ℕ) → p x ≡ true → ⊥) → passing p xs ≡ 0
passing_none p [] h = refl
passing_none p (x ∷ xs) h = go (p x) refl (passing_none p xs h)
  where
    go : (b : Bool) → p x ≡ b → passing p xs ≡ 0 → cond b 1 0 + passing p xs ≡ 0
    go true e ih = absurd (h x e)
    go false e ih = omega (arith, ih)

-- those that pass are one text and others
passing_but : (p : List ℕ → Bool) (y : List ℕ) (xs : List (List ℕ)) → passing p xs ≤ passing (λ x. p x && not (bytes_eq y x)) xs + times_in y xs
passing_but p y [] = omega arith
passing_but p y (x ∷ xs) = go (p x) (bytes_eq y x) (passing_but p y xs)
  where
    go : (a b : Bool) → passing p xs ≤ passing (λ x. p x && not (bytes_eq y x)) xs + times_in y xs
        → cond a 1 0 + passing p xs ≤ (cond (a && not b) 1 0 + passing (λ x. p x && not (bytes_eq y x)) xs) + (cond b 1 0 + times_in y xs)
    go true true ih = omega (arith, ih)
    go true false ih = omega (arith, ih)
    go false true ih = omega (arith, ih)
    go false false ih = omega (arith, ih)

-- of a list without repetitions no more pass than there are texts that may
passing_among : (ys : List (List ℕ)) (p : List ℕ → Bool) (xs : List (List ℕ)) → ((x : List ℕ) → times_in x xs ≤ 1) → ((x : List ℕ) → p x ≡ true → 1 ≤ times_in x ys) → passing p xs ≤ length ys
passing_among [] p xs once h = omega (arith, passing_none p xs (λ x e. absurd (let k = h x e in omega arith)))
passing_among (y ∷ ys) p xs once h =
    let rest = passing_among ys (λ x. p x && not (bytes_eq y x)) xs once others in
    let but = passing_but p y xs in
    let one = once y in
    omega arith
  where
    others : (x : List ℕ) → (p x && not (bytes_eq y x)) ≡ true → 1 ≤ times_in x ys
    others x e = go (bytes_eq x y) refl (h x (and_parts (p x) (not (bytes_eq y x)) e).0)
      where
        other : bytes_eq x y ≡ true → ⊥
        other t = let u : bytes_eq y x ≡ true = bytes_eq_comm y x ∙ t in let v : not (bytes_eq y x) ≡ true = (and_parts (p x) (not (bytes_eq y x)) e).1 in let w : false ≡ true = sym (ap not u) ∙ v in cc

        go : (b : Bool) → bytes_eq x y ≡ b → 1 ≤ cond b 1 0 + times_in x ys → 1 ≤ times_in x ys
        go true t k = absurd (other t)
        go false t k = omega (arith, k)

-- the texts of free names
abbrev free_texts : List (List ℕ) → List (ℕ × Port) → List (List ℕ)
free_texts names fs = map (λ (x : ℕ × Port). name_text names x.0) fs

-- each free name has its own
free_listed : (names : List (List ℕ)) (j : ℕ) (fs : List (ℕ × Port)) → IsSome (free_among j fs) → 1 ≤ times_in (name_text names j) (free_texts names fs)
free_listed names j [] s = absurd cc
free_listed names j (x ∷ fs) s = go (eqb j x.0) refl s (free_listed names j fs)
  where
    go : (b : Bool) → eqb j x.0 ≡ b → IsSome (if b then Some x.1 else free_among j fs) → (IsSome (free_among j fs) → 1 ≤ times_in (name_text names j) (free_texts names fs)) → 1 ≤ times_in (name_text names j) (free_texts names (x ∷ fs))
    go true e t ih =
        let same : bytes_eq (name_text names j) (name_text names x.0) ≡ true = ap (λ k. bytes_eq (name_text names j) (name_text names k)) (sym (eqb-true j x.0 e)) ∙ (bytes_eq-Decides (name_text names j) (name_text names j)).1 refl in
        rw same (omega arith)
    go false e t ih = omega (arith, ih t)

-- a name that occurs once is one of them
once_listed : (names : List (List ℕ)) (l : ListedNet) → IsPrintable names l → (x : List ℕ) → occurs x (printed names l) ≡ 1 → Occurs names l x → 1 ≤ times_in x (free_texts names l.frees)
once_listed names l h x e (inl t) = absurd (let k = occurs_is x (printed names l) in omega arith)
once_listed names l h x e (inr o) = rw o.2 (free_listed names o.0 l.frees o.1)

-- so they are no more
pub few_free : (names : List (List ℕ)) (l : ListedNet) → IsPrintable names l → IsCountable l → count_by (λ x. occurs x (printed names l) == 1) (distinct (printed names l)) ≤ length l.frees
few_free names l h few =
    let once : List ℕ → Bool = λ x. occurs x (printed names l) == 1 in
    let all = passing_among (free_texts names l.frees) once (distinct (printed names l)) (λ x. listed_once x (printed names l)) listed in
    let count = passing_is once (distinct (printed names l)) in
    let long = length-map l.frees (λ (x : ℕ × Port). name_text names x.0) in
    omega arith
  where
    listed : (x : List ℕ) → (occurs x (printed names l) == 1) ≡ true → 1 ≤ times_in x (free_texts names l.frees)
    listed x t =
        let one : occurs x (printed names l) ≡ 1 = eqb-true (occurs x (printed names l)) 1 t in
        let k = occurs_is x (printed names l) in
        once_listed names l h x one (occurring (Occurs names l) x (printed names l) (all_occur names l h few) (omega arith))
