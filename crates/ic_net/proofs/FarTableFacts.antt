-- Tables of far ends: places tell spots apart, and what a join writes.
use Rattle.std.proofs.Common.{◌≡◌, ◌≢◌, ℕ, ◌+◌, ◌-◌, ◌*◌, ◌<◌, Bool, true, false, List, [], ◌∷◌, length, drop, refl, sym, ap, arith, ◌∙◌, length-set, suc, zero, slice_index_or, drop-cons, slice_get, Some, subst}
use Rattle.std.proofs.lemmas.Option.{same_Some, slice_get_within, get_or_from_slice_get}
use Rattle.std.proofs.lemmas.List.{get_or-set_same, get_or-set_other, get_or_default}
use Rattle.std.specs.Prelude.{if◌then◌else◌, slice_set}
use Rattle.ic_name.specs.declared.ids.Spot.{Spot}
use Rattle.ic_name.specs.declared.ids.Spot.TheVariants as spot
use Rattle.ic_name.specs.declared.ids.Link.{Link}
use Rattle.ic_name.specs.Spots.{same_spot}
use Rattle.ic_name.proofs.SpotFacts.{same_spot_true, same_spot_self}
use Rattle.ic_path.specs.FarEnds.{far, splice}
use Rattle.ic_path.specs.Rings.{rings}
use Rattle.ic_link.specs.Links.{shape}
use Rattle.ic_start.specs.Starts.{IsStartSpot, AreStartLinks}
use Rattle.ic_net.specs.FarTables.{place_of, end_at, IsFarTable, HasFarEnds}

-- spots with one place are one
pub one_spot : (a n : ℕ) (p q : Spot) → IsStartSpot a n p → IsStartSpot a n q → place_of a p ≡ place_of a q → p ≡ q
one_spot a n (spot.Agent x i) (spot.Agent y j) h k e =
    let s : x.slot ≡ y.slot = omega arith in
    let d : i ≡ j = omega arith in
    let t : x.serial ≡ y.serial = h.1 ∙ sym k.1 in
    λ u. spot.Agent (record { slot = s u; serial = t u }) (d u)
one_spot a n (spot.Agent x i) (spot.Name j) h k e = absurd (omega arith)
one_spot a n (spot.Name i) (spot.Agent y j) h k e = absurd (omega arith)
one_spot a n (spot.Name i) (spot.Name j) h k e = let d : i ≡ j = omega arith in ap spot.Name d

pub place_within : (a n : ℕ) (p : Spot) → IsStartSpot a n p → place_of a p < 3 * a + n
place_within a n (spot.Agent x i) h = omega arith
place_within a n (spot.Name j) h = omega arith

test_off : (p q : Spot) → p ≢ q → same_spot p q ≡ false
test_off p q n = go (same_spot p q) refl
  where
    go : (b : Bool) → same_spot p q ≡ b → same_spot p q ≡ false
    go true e = absurd (n (same_spot_true p q e))
    go false e = e

-- one write
written : (a n : ℕ) (ends : List Spot) (q v p : Spot) → length ends ≡ 3 * a + n → IsStartSpot a n q → IsStartSpot a n p
    → end_at a (slice_set ends (place_of a q) v) p ≡ (if same_spot p q then v else end_at a ends p)
written a n ends q v p long hq hp = go (same_spot p q) refl
  where
    go : (b : Bool) → same_spot p q ≡ b → end_at a (slice_set ends (place_of a q) v) p ≡ (if b then v else end_at a ends p)
    go true e =
        let s : p ≡ q = same_spot_true p q e in
        let w : place_of a q < length ends = rw long (place_within a n q hq) in
        rw s (get_or-set_same ends (place_of a q) v q w)
    go false e =
        let d : place_of a p ≢ place_of a q = λ h. let s : p ≡ q = one_spot a n p q hp hq h in let t : same_spot p q ≡ true = rw s (same_spot_self q) in let u : false ≡ true = sym e ∙ t in cc in
        get_or-set_other ends (place_of a q) (place_of a p) v p d

-- the two writes of a join splice the far ends
pub joined : (a n : ℕ) (ends : List Spot) (l r : Spot) → IsFarTable a n ends → IsStartSpot a n l → IsStartSpot a n r
    → HasFarEnds a n (slice_set (slice_set ends (place_of a (end_at a ends r)) (end_at a ends l)) (place_of a (end_at a ends l)) (end_at a ends r)) (splice shape (end_at a ends) l r)
joined a n ends l r t hl hr p hp =
    let once = written a n ends (end_at a ends r) (end_at a ends l) p t.long (t.inside r hr) hp in
    let long : length (slice_set ends (place_of a (end_at a ends r)) (end_at a ends l)) ≡ 3 * a + n = length-set ends (place_of a (end_at a ends r)) (end_at a ends l) ∙ t.long in
    let twice = written a n (slice_set ends (place_of a (end_at a ends r)) (end_at a ends l)) (end_at a ends l) (end_at a ends r) p long (t.inside l hl) hp in
    twice ∙ ap (λ x. if same_spot p (end_at a ends l) then end_at a ends r else x) once

-- spliced far ends are spots of the start, too
pub spliced_inside : (a n : ℕ) (ends new : List Spot) (l r : Spot) → IsFarTable a n ends → IsStartSpot a n l → IsStartSpot a n r
    → length new ≡ length ends → HasFarEnds a n new (splice shape (end_at a ends) l r) → IsFarTable a n new
spliced_inside a n ends new l r t hl hr e h = record { long = e ∙ t.long; inside = λ p hp. rw (h p hp) (go p hp (same_spot p (end_at a ends l)) (same_spot p (end_at a ends r))) }
  where
    go : (p : Spot) → IsStartSpot a n p → (x y : Bool) → IsStartSpot a n (if x then end_at a ends r else (if y then end_at a ends l else end_at a ends p))
    go p hp true y = t.inside r hr
    go p hp false true = t.inside l hl
    go p hp false false = t.inside p hp

-- a table of which each entry has its own place is bare
pub bare_table : (a n : ℕ) (ends : List Spot) → length ends ≡ 3 * a + n
    → ((k : ℕ) (d : Spot) → k < 3 * a + n → IsStartSpot a n (slice_index_or ends k d) × (place_of a (slice_index_or ends k d) ≡ k))
    → HasFarEnds a n ends (λ p. p)
bare_table a n ends long h p hp =
    let x = h (place_of a p) p (place_within a n p hp) in
    one_spot a n (end_at a ends p) p x.0 hp x.1

pub bare_inside : (a n : ℕ) (ends : List Spot) → length ends ≡ 3 * a + n → HasFarEnds a n ends (λ p. p) → IsFarTable a n ends
bare_inside a n ends long h = record { long = long; inside = λ p hp. rw (h p hp) hp }

-- each link of a start joins spots of the start
pub link_inside : (a n k : ℕ) (ls : List Link) (i : ℕ) (l : Link) → AreStartLinks a n k ls → slice_get ls i ≡ Some l
    → IsStartSpot a n l.a × IsStartSpot a n l.b
link_inside a n k [] i l h at = cc
link_inside a n k (x ∷ xs) zero l h at = subst (λ y. IsStartSpot a n y.a × IsStartSpot a n y.b) (same_Some x l at) (h.1, h.2)
link_inside a n k (x ∷ xs) (suc i) l h at = link_inside a n (k + 1) xs i l h.3 at

-- the link at a place is the first of those from there on
pub link_first : (ls : List Link) (i : ℕ) (l : Link) → slice_get ls i ≡ Some l → drop i ls ≡ l ∷ drop (suc i) ls
link_first ls i l at = drop-cons ls i l (slice_get_within ls i l at) ∙ ap (λ x. x ∷ drop (suc i) ls) (get_or_from_slice_get ls i l l at)

-- what is read at a spot's place
pub slot_is : (a n : ℕ) (ends : List Spot) (p d : Spot) (k : ℕ) → IsFarTable a n ends → IsStartSpot a n p → k ≡ place_of a p → slice_index_or ends k d ≡ end_at a ends p
slot_is a n ends p d k t h e =
    let w : place_of a p < length ends = rw t.long (place_within a n p h) in
    ap (λ m. slice_index_or ends m d) e ∙ get_or_default ends (place_of a p) d p w

pub slot_inside : (a n : ℕ) (ends : List Spot) (p d : Spot) (k : ℕ) → IsFarTable a n ends → IsStartSpot a n p → k ≡ place_of a p → IsStartSpot a n (slice_index_or ends k d)
slot_inside a n ends p d k t h e = rw (slot_is a n ends p d k t h e) (t.inside p h)

-- a join, by what the code reads and where it writes
pub joined_at : (a n : ℕ) (ends : List Spot) (l r x y : Spot) (k m : ℕ) → IsFarTable a n ends → IsStartSpot a n l → IsStartSpot a n r
    → x ≡ end_at a ends l → y ≡ end_at a ends r → k ≡ place_of a x → m ≡ place_of a y
    → HasFarEnds a n (slice_set (slice_set ends m x) k y) (splice shape (end_at a ends) l r)
joined_at a n ends l r x y k m t hl hr ex ey ek em =
    let k' : k ≡ place_of a (end_at a ends l) = ek ∙ ap (place_of a) ex in
    let m' : m ≡ place_of a (end_at a ends r) = em ∙ ap (place_of a) ey in
    rw (k', m', ex, ey) (joined a n ends l r t hl hr)

-- the links that have come once the i-th from the end comes too
pub one_more : (ls : List Link) (i n : ℕ) (l : Link) → i < n → slice_get ls (n - 1 - i) ≡ Some l → drop (n - (i + 1)) ls ≡ l ∷ drop (n - i) ls
one_more ls i n l h at =
    let k : n - (i + 1) ≡ n - 1 - i = omega arith in
    let m : suc (n - 1 - i) ≡ n - i = omega arith in
    rw (k, ← m) (link_first ls (n - 1 - i) l at)

-- a join is one link more
pub table_more : (a n : ℕ) (old new : List Spot) (l : Link) (ls rest : List Link) → ls ≡ l ∷ rest → HasFarEnds a n old (far shape rest) → IsStartSpot a n l.a → IsStartSpot a n l.b
    → HasFarEnds a n new (splice shape (end_at a old) l.a l.b) → HasFarEnds a n new (far shape ls)
table_more a n old new l ls rest e h ha hb w p hp = rw e (w p hp ∙ rw (h l.a ha, h l.b hb, h p hp) refl)

pub rings_more : (a n : ℕ) (old : List Spot) (l : Link) (ls rest : List Link) → ls ≡ l ∷ rest → HasFarEnds a n old (far shape rest) → IsStartSpot a n l.a
    → rings shape ls ≡ (if same_spot (end_at a old l.a) l.b then 1 else 0) + rings shape rest
rings_more a n old l ls rest e h ha = rw (e, h l.a ha) refl
