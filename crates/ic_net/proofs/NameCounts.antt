-- How often names occur, counted link by link, and the table of those that occur once.
use Rattle.std.proofs.Common.{◌≡◌, ℕ, suc, zero, ◌+◌, ◌<◌, ◌≤◌, Bool, true, false, List, [], ◌∷◌, ◌++◌, length, drop, refl, sym, ap, arith, ◌∙◌, slice_get, Some, append-nil, add-one, inl, inr}
use Rattle.std.proofs.lemmas.List.{get_or_past}
use Rattle.std.specs.Ordering.{nat_cmp}
use Rattle.std.specs.BTreeMap.{insert_entry}
use Rattle.std.specs.Prelude.{if◌then◌else◌, slice_index, ◌⊎◌}
use Rattle.std.proofs.lemmas.Bool.{cases_lt}
use Rattle.ic_name.specs.declared.ids.Spot.{Spot}
use Rattle.ic_name.specs.declared.ids.Spot.TheVariants as spots
use Rattle.ic_name.specs.declared.ids.Link.{Link}
use Rattle.ic_name.specs.declared.ports.Port.{Port}
use Rattle.ic_name.specs.Spots.{same_spot}
use Rattle.ic_path.specs.Links.{degree, hits}
use Rattle.ic_link.specs.Links.{shape}
use Rattle.ic_start.specs.Starts.{IsStartSpot, AreStartLinks}
use Rattle.ic_net.specs.Nets.{frees_upto}
use Rattle.ic_net.proofs.FarTableFacts.{link_inside, link_first}
use Rattle.ic_net.proofs.Listings.{nat_above}

-- counts that stay below a total of two are small
pub counts_small : (xs : List ℕ) (n : ℕ) (rest all : ℕ → ℕ) → length xs ≡ n → ((j : ℕ) → j < n → slice_index xs j + rest j ≡ all j) → ((j : ℕ) → all j ≤ 2)
    → (j : ℕ) → slice_index xs j < 255
counts_small xs n rest all e h few j = go (cases_lt j n)
  where
    go : (j < n) ⊎ (n ≤ j) → slice_index xs j < 255
    go (inl l) = let a = h j l in let b = few j in omega arith
    go (inr g) = let past : slice_index xs j ≡ 0 = get_or_past xs j 0 (omega arith) in omega arith

-- the link at a place, and those behind it
pub one_link : (ls : List Link) (i : ℕ) (l : Link) (p : Spot) → slice_get ls i ≡ Some l → degree shape (drop i ls) p ≡ hits shape p l + degree shape (drop (i + 1) ls) p
one_link ls i l p at = ap (λ xs. degree shape xs p) (link_first ls i l at) ∙ rw add-one refl

-- the ends of a link are spots of the start, for a count of names that is that of the start
pub left_inside : (a n m : ℕ) (ls : List Link) (i : ℕ) (l : Link) → m ≡ n → AreStartLinks a n 0 ls → slice_get ls i ≡ Some l → IsStartSpot a m l.a
left_inside a n m ls i l e h at = rw e (link_inside a n 0 ls i l h at).0

pub right_inside : (a n m : ℕ) (ls : List Link) (i : ℕ) (l : Link) → m ≡ n → AreStartLinks a n 0 ls → slice_get ls i ≡ Some l → IsStartSpot a m l.b
right_inside a n m ls i l e h at = rw e (link_inside a n 0 ls i l h at).1

-- one where the name is the spot
abbrev pub named_once : ℕ → Spot → ℕ
named_once j s = if same_spot (spots.Name j) s then 1 else 0

-- the left end of a link is counted
pub counted_left : (xs ys : List ℕ) (n : ℕ) (ls : List Link) (i : ℕ) (l : Link) → length xs ≡ n → slice_get ls i ≡ Some l
    → ((j : ℕ) → j < n → slice_index xs j + degree shape (drop i ls) (spots.Name j) ≡ degree shape ls (spots.Name j))
    → ((j : ℕ) → j < length xs → slice_index ys j ≡ slice_index xs j + named_once j l.a)
    → (j : ℕ) → j < n → slice_index ys j + (named_once j l.b + degree shape (drop (i + 1) ls) (spots.Name j)) ≡ degree shape ls (spots.Name j)
counted_left xs ys n ls i l e at h w j k =
    let a = h j k in
    let b = w j (omega arith) in
    let c = one_link ls i l (spots.Name j) at in
    omega arith

-- and then the right one
pub counted_right : (xs ys : List ℕ) (n : ℕ) (ls : List Link) (i : ℕ) (l : Link) → length xs ≡ n
    → ((j : ℕ) → j < n → slice_index xs j + (named_once j l.b + degree shape (drop (i + 1) ls) (spots.Name j)) ≡ degree shape ls (spots.Name j))
    → ((j : ℕ) → j < length xs → slice_index ys j ≡ slice_index xs j + named_once j l.b)
    → (j : ℕ) → j < n → slice_index ys j + degree shape (drop (i + 1) ls) (spots.Name j) ≡ degree shape ls (spots.Name j)
counted_right xs ys n ls i l e h w j k =
    let a = h j k in
    let b = w j (omega arith) in
    omega arith

-- all keys are below a number
abbrev AreBelow : ℕ → List (ℕ × Port) → Type 0
AreBelow m [] = Unit {0}
AreBelow m (e ∷ es) = (e.0 < m) × AreBelow m es

insert_above : (es : List (ℕ × Port)) (m : ℕ) (v : Port) → AreBelow m es → insert_entry nat_cmp es m v ≡ es ++ (m, v) ∷ []
insert_above [] m v h = refl
insert_above (e ∷ es) m v h = rw (nat_above m e.0 h.0) (ap (λ r. e ∷ r) (insert_above es m v h.1))

below_append : (m : ℕ) (es fs : List (ℕ × Port)) → AreBelow m es → AreBelow m fs → AreBelow m (es ++ fs)
below_append m [] fs h k = k
below_append m (e ∷ es) fs h k = (h.0, below_append m es fs h.1 k)

frees_below : (once : ℕ → Bool) (f : ℕ → Port) (n m : ℕ) → n ≤ m → AreBelow m (frees_upto once f n)
frees_below once f zero m h = tt
frees_below once f (suc n) m h = below_append m (frees_upto once f n) _ (frees_below once f n m (omega arith)) (go (once n))
  where
    go : (b : Bool) → AreBelow m (if b then (n, f n) ∷ [] else [])
    go true = (omega arith, tt)
    go false = tt

-- a name that occurs once is put at the end
pub frees_put : (once : ℕ → Bool) (f : ℕ → Port) (n : ℕ) (es new : List (ℕ × Port)) (v : Port) → es ≡ frees_upto once f n → once n ≡ true → v ≡ f n
    → new ≡ insert_entry nat_cmp es n v → new ≡ frees_upto once f (n + 1)
frees_put once f n es new v e o is ins =
    let at_end = insert_above (frees_upto once f n) n v (frees_below once f n n (omega arith)) in
    rw (ins, e, at_end, is, add-one, o) refl

-- and another one is left out
pub frees_skip : (once : ℕ → Bool) (f : ℕ → Port) (n : ℕ) (es : List (ℕ × Port)) → es ≡ frees_upto once f n → once n ≡ false → es ≡ frees_upto once f (n + 1)
frees_skip once f n es e o = rw (add-one, o) (e ∙ sym (append-nil (frees_upto once f n)))
