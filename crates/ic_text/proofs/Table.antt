-- The name table: where a name is, and one more occurrence of it.
use Rattle.std.proofs.Common.{◌≡◌, ℕ, suc, ◌+◌, ◌<◌, Bool, true, false, cond, List, [], ◌∷◌, ◌++◌, length, get_or, Option, Some, None, refl, sym, ap, ◌∙◌, arith, add-one}
use Rattle.std.proofs.Math.ListN.{set}
use Rattle.std.specs.Prelude.{map, count_by, find, unwrap_or}
use Rattle.std.specs.List.{fold}
use Rattle.std.proofs.Common.{eqb, ◌&&◌, option_map}
use Rattle.std.specs.Str.{bytes_eq}
use Rattle.std.proofs.lemmas.Slice.Eq.{bytes_eq-Decides}
use Rattle.ic_text.specs.declared.seen.Seen.{Seen}
use Rattle.ic_text.specs.Names.{Entry, enter, next, place, number, times, is_free, is_reserved_free}
use Rattle.ic_text.specs.Texts.{is_reserved}
use Rattle.ic_text.proofs.Distinct.{bytes_eq_comm}
use Rattle.ic_text.specs.Table.{name_of, names_of, first_of}

-- the number behind a `next`
pub next_some : (o : Option ℕ) (i : ℕ) → next o ≡ Some i → (j : ℕ) × (o ≡ Some j) × (i ≡ j + 1)
next_some None i h = absurd cc
next_some (Some j) i h = (j, refl, cc)

-- no number behind none
pub next_none : (o : Option ℕ) → next o ≡ None → o ≡ None
next_none None h = refl
next_none (Some j) h = absurd cc

-- a name is where its place says
pub record IsAt (x : List ℕ) (ns : List Seen) (i : ℕ) : Type 0 where
  pub within : i < length ns
  pub count : (d : Seen) → times x (names_of ns) ≡ (get_or ns i d).times
  pub more : (o : ℕ) (d : Seen) → enter x o (names_of ns) ≡ names_of (set ns i (record (get_or ns i d) { times = (get_or ns i d).times + 1 }))

-- where a name has a number
pub is_at : (x : List ℕ) (ns : List Seen) (i : ℕ) → place x (names_of ns) ≡ Some i → IsAt x ns i
is_at x [] i h = absurd cc
is_at x (n ∷ ns) i h = by_test (bytes_eq x n.text.now) refl (λ j. is_at x ns j)
  where
    by_test : (t : Bool) → bytes_eq x n.text.now ≡ t → ((j : ℕ) → place x (names_of ns) ≡ Some j → IsAt x ns j) → IsAt x (n ∷ ns) i
    by_test true e ih =
        let z : i ≡ 0 = let k = rw e at h in cc in
        rw z (record {
          within = omega arith;
          count = λ d. rw e refl;
          more = λ o d. rw e refl;
        })
    by_test false e ih =
        let k = next_some (place x (names_of ns)) i (rw e at h) in
        let m = ih k.0 k.1 in
        let z : i ≡ suc k.0 = k.2 ∙ add-one k.0 in
        rw z (record {
          within = omega (arith, m.within);
          count = λ d. rw e (m.count d);
          more = λ o d. rw e (ap (λ (w : List Entry). name_of n ∷ w) (m.more o d));
        })

-- a name that has not occurred
pub record IsNew (x : List ℕ) (ns : List Seen) : Type 0 where
  pub count : times x (names_of ns) ≡ 0
  pub more : (o : ℕ) (s : Seen) → name_of s ≡ record { text = x; first = o; times = 1 } → enter x o (names_of ns) ≡ names_of (ns ++ s ∷ [])
  pub places : (o : ℕ) (y : List ℕ) → place y (enter x o (names_of ns)) ≡ cond (bytes_eq x y) (Some (length ns)) (place y (names_of ns))

-- where a name has none
pub is_new : (x : List ℕ) (ns : List Seen) → place x (names_of ns) ≡ None → IsNew x ns
is_new x [] h = record {
  count = refl;
  more = λ o s e. ap (λ (w : Entry). w ∷ []) (sym e);
  places = λ o y. ap (λ (b : Bool). cond b (Some 0) None) (bytes_eq_comm y x);
}
is_new x (n ∷ ns) h = by_test (bytes_eq x n.text.now) refl (is_new x ns)
  where
    apart : (y : List ℕ) → bytes_eq x n.text.now ≡ false → (bytes_eq x y ≡ true) → bytes_eq y n.text.now ≡ false
    apart y e f = ap (λ (w : List ℕ). bytes_eq w n.text.now) (sym ((bytes_eq-Decides x y).0 f)) ∙ e

    swap : (a b : Bool) (p q : Option ℕ) → (b ≡ true → a ≡ false) → cond a (Some 0) (next (cond b p q)) ≡ cond b (next p) (cond a (Some 0) (next q))
    swap true true p q k = absurd (let m = k refl in cc)
    swap true false p q k = refl
    swap false true p q k = refl
    swap false false p q k = refl

    by_test : (t : Bool) → bytes_eq x n.text.now ≡ t → (place x (names_of ns) ≡ None → IsNew x ns) → IsNew x (n ∷ ns)
    by_test true e ih = absurd (let k = rw e at h in cc)
    by_test false e ih =
        let m = ih (next_none (place x (names_of ns)) (rw e at h)) in
        record {
          count = rw e m.count;
          more = λ o s f. rw e (ap (λ (w : List Entry). name_of n ∷ w) (m.more o s f));
          places = λ o y. rw e (ap (λ (p : Option ℕ). cond (bytes_eq y n.text.now) (Some 0) (next p)) (m.places o y) ∙ swap (bytes_eq y n.text.now) (bytes_eq x y) (Some (length ns)) (place y (names_of ns)) (apart y e) ∙ ap (λ (k : ℕ). cond (bytes_eq x y) (Some k) (cond (bytes_eq y n.text.now) (Some 0) (next (place y (names_of ns))))) (add-one (length ns)));
        }

-- a number is within the table
pub place_within : (x : List ℕ) (ns : List Entry) (i : ℕ) → place x ns ≡ Some i → i < length ns
place_within x [] i h = absurd cc
place_within x (n ∷ ns) i h = by_test (bytes_eq x n.text) refl (place_within x ns)
  where
    by_test : (t : Bool) → bytes_eq x n.text ≡ t → ((j : ℕ) → place x ns ≡ Some j → j < length ns) → i < length (n ∷ ns)
    by_test true e ih = let z : i ≡ 0 = let k = rw e at h in cc in omega arith
    by_test false e ih =
        let k = next_some (place x ns) i (rw e at h) in
        omega (arith, ih k.0 k.1, k.2)

-- as many entries as names
pub length_names : (ns : List Seen) → length (names_of ns) ≡ length ns
length_names [] = refl
length_names (n ∷ ns) = ap suc (length_names ns)

-- a name that has not occurred has the next number
pub next_number : (x : List ℕ) (ns : List Entry) → place x ns ≡ None → number x ns ≡ length ns
next_number x ns h = ap (λ (p : Option ℕ). unwrap_or p (length ns)) h

-- a fold of what was mapped
fold-map : {A B C : Type 0} (f : C → B → C) (g : A → B) (a : C) (xs : List A) → fold f a (map g xs) ≡ fold (λ c x. f c (g x)) a xs
fold-map f g a [] = refl
fold-map f g a (x ∷ xs) = fold-map f g (f a (g x)) xs

-- the names that occur once
pub count_free : (ns : List Seen) → count_by is_free (names_of ns) ≡ count_by (λ n. eqb n.times 1) ns
count_free ns = fold-map (λ a x. a + cond (is_free x) 1 0) name_of 0 ns

-- a map of a choice
option_map-cond : {A B : Type 0} (f : A → B) (b : Bool) (x : A) (o : Option A) → cond b (Some (f x)) (option_map f o) ≡ option_map f (cond b (Some x) o)
option_map-cond f true x o = refl
option_map-cond f false x o = refl

-- the reserved name that is found
pub find_reserved : (ns : List Seen) → find is_reserved_free (names_of ns) ≡ option_map name_of (find (λ n. eqb n.times 1 && is_reserved n.text.now) ns)
find_reserved [] = refl
find_reserved (n ∷ ns) =
    ap (λ (o : Option Entry). cond (is_reserved_free (name_of n)) (Some (name_of n)) o) (find_reserved ns)
    ∙ option_map-cond name_of (eqb n.times 1 && is_reserved n.text.now) n (find (λ x. eqb x.times 1 && is_reserved x.text.now) ns)

-- the texts
pub texts_are : (ns : List Seen) → map (λ n. n.text) (names_of ns) ≡ map (λ n. n.text.now) ns
texts_are [] = refl
texts_are (n ∷ ns) = ap (λ (w : List (List ℕ)). n.text.now ∷ w) (texts_are ns)

-- one map in place of two
two_maps : (o : Option Seen) → option_map first_of (option_map name_of o) ≡ option_map (λ n. n.first) o
two_maps None = refl
two_maps (Some n) = refl

-- the place of the reserved name that is found
pub first_reserved_is : (ns : List Seen) → option_map first_of (find is_reserved_free (names_of ns)) ≡ option_map (λ n. n.first) (find (λ n. eqb n.times 1 && is_reserved n.text.now) ns)
first_reserved_is ns = ap (option_map first_of) (find_reserved ns) ∙ two_maps (find (λ n. eqb n.times 1 && is_reserved n.text.now) ns)
