-- Slots of which one is filled or emptied, and what the values in them show.
use Rattle.std.proofs.Common.{◌≡◌, ◌≢◌, ℕ, zero, suc, ◌+◌, ◌≤◌, List, [], ◌∷◌, map, length, Option, Some, None, ◌⊎◌, inl, inr, refl, sym, ap, subst, ◌∙◌, arith, is_some, count_by}
use Rattle.std.proofs.lemmas.List.{length-map}
use Rattle.slab.specs.Slab.{Slab, get, Updates, entries_from}
use Rattle.slab.proofs.SlabLemmas.{Contains-entries, length-entries_from}
use Rattle.ic_path.specs.Orders.{Pick, here, there, Alike, IsIn}
use Rattle.ic_path.proofs.Picks.{two_picks, pick-map, none_in, in_others, in_picked, in_more, in-cons_cases, in-contains, contains-in}
use Rattle.ic_path.proofs.Alikes.{picked_alike, alike_back, alike-in}
use Rattle.ic_roster.proofs.Images.{picked_image}
use Rattle.ic_roster.specs.Slots.{slot_at, shown, HoldsOneMore}

-- slots that hold the same have the same entries
same_entries : {T : Type 0} (first : ℕ) (xs ys : List (Option T)) → ((k : ℕ) → slot_at ys k ≡ slot_at xs k) → entries_from first ys ≡ entries_from first xs
same_entries first [] [] h = refl
same_entries first [] (None ∷ ys) h = same_entries (first + 1) [] ys (λ k. h (suc k))
same_entries first [] (Some y ∷ ys) h = let e = h 0 in absurd cc
same_entries first (None ∷ xs) [] h = same_entries (first + 1) xs [] (λ k. h (suc k))
same_entries first (None ∷ xs) (None ∷ ys) h = same_entries (first + 1) xs ys (λ k. h (suc k))
same_entries first (None ∷ xs) (Some y ∷ ys) h = let e = h 0 in absurd cc
same_entries first (Some x ∷ xs) [] h = let e = h 0 in absurd cc
same_entries first (Some x ∷ xs) (None ∷ ys) h = let e = h 0 in absurd cc
same_entries first (Some x ∷ xs) (Some y ∷ ys) h =
    let e : y ≡ x = (let e = h 0 in cc) in
    let r = same_entries (first + 1) xs ys (λ k. h (suc k)) in
    λ i. (first, e i) ∷ r i

-- one value more is one entry more
picked_entry : {T : Type 0} (first : ℕ) (few more : List (Option T)) (key : ℕ) (x : T) → HoldsOneMore few more key x
    → Pick (first + key, x) (entries_from first more) (entries_from first few)
picked_entry first few [] key x h = let e = h.filled in absurd cc
picked_entry {T} first few (y ∷ more) zero x h = by few y (h.filled) (λ k. h.others (suc k) (λ e. absurd (omega (arith, e)))) h.vacant
  where
    number : first + 0 ≡ first
    number = omega arith

    by : (few : List (Option T)) (y : Option T) → y ≡ Some x → ((k : ℕ) → slot_at more k ≡ slot_at few (suc k)) → slot_at few 0 ≡ None → Pick (first + 0, x) (entries_from first (y ∷ more)) (entries_from first few)
    by few None e same vacant = absurd cc
    by [] (Some z) e same vacant =
        let r : entries_from (first + 1) more ≡ [] = same_entries (first + 1) [] more same in
        let s : z ≡ x = cc in
        rw (r, s, number) here
    by (None ∷ few) (Some z) e same vacant =
        let r : entries_from (first + 1) more ≡ entries_from (first + 1) few = same_entries (first + 1) few more same in
        let s : z ≡ x = cc in
        rw (r, s, number) here
    by (Some w ∷ few) (Some z) e same vacant = absurd cc
picked_entry {T} first few (y ∷ more) (suc key) x h = by few y (h.others 0 (λ e. absurd (omega (arith, e)))) (λ few i. picked_entry (first + 1) few more key x i) h
  where
    number : first + suc key ≡ first + 1 + key
    number = omega arith

    behind : (o : Option T) (few : List (Option T)) → HoldsOneMore (o ∷ few) (y ∷ more) (suc key) x → HoldsOneMore few more key x
    behind o few h = record { vacant = h.vacant; filled = h.filled; others = λ k other. h.others (suc k) (λ e. other (omega (arith, e))) }

    behind_none : HoldsOneMore [] (y ∷ more) (suc key) x → HoldsOneMore [] more key x
    behind_none h = record { vacant = refl; filled = h.filled; others = λ k other. h.others (suc k) (λ e. other (omega (arith, e))) }

    by : (few : List (Option T)) (y' : Option T) → y' ≡ slot_at few 0 → ((few : List (Option T)) → HoldsOneMore few more key x → Pick (first + 1 + key, x) (entries_from (first + 1) more) (entries_from (first + 1) few))
        → HoldsOneMore few (y ∷ more) (suc key) x → Pick (first + suc key, x) (entries_from first (y' ∷ more)) (entries_from first few)
    by [] None e again h = rw number (again [] (behind_none h))
    by [] (Some z) e again h = absurd cc
    by (None ∷ few) None e again h = rw number (again few (behind None few h))
    by (None ∷ few) (Some z) e again h = absurd cc
    by (Some w ∷ few) None e again h = absurd cc
    by (Some w ∷ few) (Some z) e again h =
        let s : z ≡ w = cc in
        rw (s, number) (there (again few (behind (Some w) few h)))

-- one value more shows one element more
picked_shown : {T X : Type 0} (f : ℕ × T → X) (few more : List (Option T)) (key : ℕ) (x : T) → HoldsOneMore few more key x → Pick (f (key, x)) (shown f more) (shown f few)
picked_shown {T} {X} f few more key x h =
    let number : 0 + key ≡ key = omega arith in
    subst (λ k. Pick (f (k, x)) (shown f more) (shown f few)) number (pick-map f (picked_entry 0 few more key x h))

-- a vacant slot is filled
pub shown_filled : {T X : Type 0} (f : ℕ × T → X) (old new : List (Option T)) (key : ℕ) (x : T) → HoldsOneMore old new key x → Alike (f (key, x) ∷ shown f old) (shown f new)
shown_filled f old new key x h = alike_back (picked_alike (picked_shown f old new key x h))

-- a filled slot is emptied
pub shown_emptied : {T X : Type 0} (f : ℕ × T → X) (old new : List (Option T)) (key : ℕ) (x : T) → HoldsOneMore new old key x → Alike (shown f old) (f (key, x) ∷ shown f new)
shown_emptied f old new key x h = picked_alike (picked_shown f new old key x h)

-- what is shown without an emptied slot was shown with it
pub shown_left : {T X : Type 0} (f : ℕ × T → X) (old new : List (Option T)) (key : ℕ) (x : T) → HoldsOneMore new old key x → (y : X) → IsIn y (shown f new) → IsIn y (shown f old)
shown_left f old new key x h y i = alike-in (alike_back (shown_emptied f old new key x h)) (in_more (f (key, x)) i)

-- a slab that takes a value in has one value more
pub filled_by_insert : {T : Type 0} (slots : List (Option T)) (old new : Slab T) (key slot : ℕ) (x : T) → old.slots ≡ slots → key ≡ slot → get old key ≡ None → Updates old new key (Some x) → HoldsOneMore slots new.slots slot x
filled_by_insert slots old new key slot x same at vacant u = rw (← same, ← at) (record { vacant = vacant; filled = u.changed; others = u.others })

-- a slab that lets a value go had one value more
pub emptied_by_remove : {T : Type 0} (old new : Slab T) (key : ℕ) (x : T) → get old key ≡ Some x → Updates old new key None → HoldsOneMore new.slots old.slots key x
emptied_by_remove old new key x had u = record { vacant = u.changed; filled = had; others = λ k other. sym (u.others k other) }

-- what a slot holds is shown
pub shown_from_slot : {T X : Type 0} (f : ℕ × T → X) (xs : List (Option T)) (key : ℕ) (x : T) → slot_at xs key ≡ Some x → IsIn (f (key, x)) (shown f xs)
shown_from_slot f xs key x h =
    let i = contains-in _ _ ((Contains-entries (record { slots = xs; vacant_key = 0; capacity = 0 }) key x).1 h) in
    (map f i.0, pick-map f i.1)

-- a slot that shows an element
pub record ShowsAt {T X : Type 0} (f : ℕ × T → X) (xs : List (Option T)) (y : X) : Type 0 where
  pub key : ℕ
  pub value : T
  pub holds : slot_at xs key ≡ Some value
  pub shows : y ≡ f (key, value)

-- what is shown is in a slot
pub slot_from_shown : {T X : Type 0} (f : ℕ × T → X) (xs : List (Option T)) (y : X) → IsIn y (shown f xs) → ShowsAt f xs y
slot_from_shown f xs y i =
    let p = picked_image f (entries_from 0 xs) i.1 in
    let h = (Contains-entries (record { slots = xs; vacant_key = 0; capacity = 0 }) p.0.0 p.0.1).0 (in-contains (p.1, p.2)) in
    record { key = p.0.0; value = p.0.1; holds = h; shows = p.3 }

-- no entry has a key below the first
entries_above : {T : Type 0} (first : ℕ) (xs : List (Option T)) (p : ℕ × T) → IsIn p (entries_from first xs) → first ≤ p.0
entries_above first [] p i = absurd (none_in i)
entries_above first (None ∷ xs) p i = let h = entries_above (first + 1) xs p i in omega (arith, h)
entries_above {T} first (Some x ∷ xs) p i = by (in-cons_cases i) (entries_above (first + 1) xs p)
  where
    by : (p ≡ (first, x)) ⊎ IsIn p (entries_from (first + 1) xs) → (IsIn p (entries_from (first + 1) xs) → first + 1 ≤ p.0) → first ≤ p.0
    by (inl e) above = omega (arith, ap (λ q. q.0) e)
    by (inr i) above = let h = above i in omega (arith, h)

-- what is left of the entries behind one of them has no other of its key
abbrev KeyIsOwn : {T : Type 0} → List (ℕ × T) → ℕ × T → ℕ × T → Type 0
KeyIsOwn {T} es p q = (left : List (ℕ × T)) → Pick p es left → IsIn q left → q.0 ≢ p.0

-- two entries have two keys
keys_apart : {T : Type 0} (first : ℕ) (xs : List (Option T)) (p q : ℕ × T) (rest : List (ℕ × T)) → Pick p (entries_from first xs) rest → IsIn q rest → q.0 ≢ p.0
keys_apart first [] p q rest k i = elim k [ ]
keys_apart first (None ∷ xs) p q rest k i = keys_apart (first + 1) xs p q rest k i
keys_apart {T} first (Some x ∷ xs) p q rest k i = by (two_picks k here) (keys_apart (first + 1) xs p q)
  where
    behind : KeyIsOwn (entries_from (first + 1) xs) p q → (left : List (ℕ × T)) → Pick p (entries_from (first + 1) xs) left → (q ≡ (first, x)) ⊎ IsIn q left → q.0 ≢ p.0
    behind later left j (inl e) = let h = entries_above (first + 1) xs p (left, j) in let n = ap (λ r. r.0) e in λ same. absurd (omega (arith, h, n, same))
    behind later left j (inr c) = later left j c

    by : ((p ≡ (first, x)) × (rest ≡ entries_from (first + 1) xs)) ⊎ ((left : List (ℕ × T)) × Pick (first, x) rest left × Pick p (entries_from (first + 1) xs) left) → KeyIsOwn (entries_from (first + 1) xs) p q → q.0 ≢ p.0
    by (inl e) later =
        let c : IsIn q (entries_from (first + 1) xs) = subst (λ s. IsIn q s) e.1 i in
        let h = entries_above (first + 1) xs q c in
        let n = ap (λ r. r.0) e.0 in
        λ same. absurd (omega (arith, h, n, same))
    by (inr r) later = behind later r.0 r.2 (in_others r.1 i)

-- two elements that are shown are in two slots
pub record ShowApart {T X : Type 0} (f : ℕ × T → X) (xs : List (Option T)) (y z : X) : Type 0 where
  pub first : ShowsAt f xs y
  pub second : ShowsAt f xs z
  pub apart : second.key ≢ first.key

-- of two picks out of what is shown, the second is in another slot
pub shown_apart : {T X : Type 0} (f : ℕ × T → X) (xs : List (Option T)) (y z : X) (rest : List X) → Pick y (shown f xs) rest → IsIn z rest → ShowApart f xs y z
shown_apart {T} {X} f xs y z rest k i =
    let p = picked_image f (entries_from 0 xs) k in
    let j : IsIn z (map f p.1) = subst (λ s. IsIn z s) p.4 i in
    let q = picked_image f p.1 j.1 in
    record {
      first = in_slot p.0 p.3 (p.1, p.2);
      second = in_slot q.0 q.3 (in_picked p.2 (q.1, q.2));
      apart = keys_apart 0 xs p.0 q.0 p.1 p.2 (q.1, q.2);
    }
  where
    in_slot : {w : X} (e : ℕ × T) → w ≡ f e → IsIn e (entries_from 0 xs) → ShowsAt f xs w
    in_slot e shows i = record {
      key = e.0;
      value = e.1;
      holds = (Contains-entries (record { slots = xs; vacant_key = 0; capacity = 0 }) e.0 e.1).0 (in-contains i);
      shows = shows;
    }

-- there are as many elements as values
pub length-shown : {T X : Type 0} (f : ℕ × T → X) (xs : List (Option T)) → length (shown f xs) ≡ count_by is_some xs
length-shown f xs = length-map (entries_from 0 xs) f ∙ length-entries_from 0 xs
