-- What slots that differ in dependents alone tell, and what a write to the dependents of one event changes.
use Rattle.std.proofs.Common.{◌≡◌, ◌≢◌, ℕ, suc, ◌+◌, ◌==◌, Bool, true, false, ◌||◌, List, [], ◌∷◌, map, Option, Some, None, ◌⊎◌, inl, inr, refl, sym, ap, ◌∙◌, subst, arith}
use Rattle.std.specs.Prelude.{option_map, unwrap_or, slice_set, IsSome, is_some}
use Rattle.std.proofs.lemmas.Bool.{eqb-true, eq-eqb, cases_eq}
use Rattle.slab.specs.Slab.{Updates, entries_from}
use Rattle.slab.proofs.SlabLemmas.{Updates-with_value}
use Rattle.ic_roster.specs.KeptEvents.{KeptEvent, lone}
use Rattle.ic_roster.specs.Slots.{slot_at, shown}
use Rattle.ic_roster.specs.EventSlots.{event_line, id_in, event_by, events_in}
use Rattle.ic_roster.specs.Records.{causes_at, dependents_at, has}
use Rattle.ic_roster.specs.RecordChanges.{ShowsSame, Changes}

module _ {X : Type 0} (f : KeptEvent → X) (tells : (r : KeptEvent) → f (lone r) ≡ f r) where
  -- what is told without dependents
  told : (o : Option KeptEvent) → option_map f (option_map lone o) ≡ option_map f o
  told None = refl
  told (Some r) = ap (λ x. Some x) (tells r)

  -- is the same
  pub same_told : (m n : List (Option KeptEvent)) → ShowsSame m n → (k : ℕ) → option_map f (slot_at n k) ≡ option_map f (slot_at m k)
  same_told m n shows k = sym (told (slot_at n k)) ∙ ap (option_map f) (shows k) ∙ told (slot_at m k)

-- an event has the same direct causes
pub same_causes : (m n : List (Option KeptEvent)) → ShowsSame m n → (k : ℕ) → causes_at n k ≡ causes_at m k
same_causes m n shows k = ap (λ o. unwrap_or o []) (same_told (λ r. r.causes) (λ r. refl) m n shows k)

-- each slot has the same id
same_ids : (m n : List (Option KeptEvent)) → ShowsSame m n → id_in n ≡ id_in m
same_ids m n shows i k = record { slot = k; line = unwrap_or (same_told event_line (λ r. refl) m n shows k i) 0 }

-- slots that show the same, the first of them under this key
abbrev ShowSameFrom : {T X : Type 0} → (ℕ × T → X) → ℕ → List (Option T) → List (Option T) → Type 0
ShowSameFrom f first xs ys = (k : ℕ) → option_map (λ x. f (first + k, x)) (slot_at ys k) ≡ option_map (λ x. f (first + k, x)) (slot_at xs k)

-- so do those behind the first
same_behind : {T X : Type 0} (f : ℕ × T → X) (first : ℕ) (xs ys : List (Option T)) → ((k : ℕ) → option_map (λ x. f (first + suc k, x)) (slot_at ys k) ≡ option_map (λ x. f (first + suc k, x)) (slot_at xs k)) → ShowSameFrom f (first + 1) xs ys
same_behind f first xs ys h k =
    let number : first + suc k ≡ first + 1 + k = omega arith in
    subst (λ i. option_map (λ x. f (i, x)) (slot_at ys k) ≡ option_map (λ x. f (i, x)) (slot_at xs k)) number (h k)

-- their entries show the same
same_from : {T X : Type 0} (f : ℕ × T → X) (first : ℕ) (xs ys : List (Option T)) → ShowSameFrom f first xs ys → map f (entries_from first ys) ≡ map f (entries_from first xs)
same_from f first [] [] h = refl
same_from f first [] (None ∷ ys) h = same_from f (first + 1) [] ys (same_behind f first [] ys (λ k. h (suc k)))
same_from f first [] (Some y ∷ ys) h = let e = h 0 in absurd cc
same_from f first (None ∷ xs) [] h = same_from f (first + 1) xs [] (same_behind f first xs [] (λ k. h (suc k)))
same_from f first (None ∷ xs) (None ∷ ys) h = same_from f (first + 1) xs ys (same_behind f first xs ys (λ k. h (suc k)))
same_from f first (None ∷ xs) (Some y ∷ ys) h = let e = h 0 in absurd cc
same_from f first (Some x ∷ xs) [] h = let e = h 0 in absurd cc
same_from f first (Some x ∷ xs) (None ∷ ys) h = let e = h 0 in absurd cc
same_from f first (Some x ∷ xs) (Some y ∷ ys) h =
    let number : first + 0 ≡ first = omega arith in
    let now : Some (f (first + 0, y)) ≡ Some (f (first + 0, x)) = h 0 in
    let e : f (first + 0, y) ≡ f (first + 0, x) = cc in
    let s : f (first, y) ≡ f (first, x) = subst (λ i. f (i, y) ≡ f (i, x)) number e in
    let r = same_from f (first + 1) xs ys (same_behind f first xs ys (λ k. h (suc k))) in
    λ i. s i ∷ r i

-- the same events are shown
pub same_events : (m n : List (Option KeptEvent)) → ShowsSame m n → events_in n ≡ events_in m
same_events m n shows =
    ap (λ ids. shown (event_by ids) n) (same_ids m n shows)
    ∙ same_from (event_by (id_in m)) 0 m n (λ k. let number : 0 + k ≡ k = omega arith in rw number (same_told (λ r. event_by (id_in m) (k, r)) (λ r. refl) m n shows k))

-- one write after another shows the same
pub shows_then : (l m n : List (Option KeptEvent)) → ShowsSame l m → ShowsSame m n → ShowsSame l n
shows_then l m n first second k = second k ∙ first k

-- a value is there where it is there mapped
some_mapped : {X Y : Type 0} (f : X → Y) (o : Option X) → is_some (option_map f o) ≡ is_some o
some_mapped f None = refl
some_mapped f (Some x) = refl

-- an event stands where the same is shown
pub stands_still : (m n : List (Option KeptEvent)) → ShowsSame m n → (k : ℕ) → is_some (slot_at n k) ≡ is_some (slot_at m k)
stands_still m n shows k = sym (some_mapped lone (slot_at n k)) ∙ ap is_some (shows k) ∙ some_mapped lone (slot_at m k)

-- a slot is in a list of one where it is that one
pub has_one : (j k : ℕ) → has j (k ∷ []) ≡ (j == k)
has_one j k = or_false (j == k)
  where
    or_false : (b : Bool) → b || false ≡ b
    or_false true = refl
    or_false false = refl

-- slots that are found to differ do
pub differ : (j k : ℕ) → (j == k) ≡ false → j ≢ k
differ j k h s = let t : (j == k) ≡ true = eq-eqb j k s in absurd cc

-- what a write to the dependents of an event leaves
module _ (m : List (Option KeptEvent)) (c : ℕ) (old new : KeptEvent) (found : Some old ≡ slot_at m c) (same : lone new ≡ lone old) where
  -- all records after it
  abbrev n : List (Option KeptEvent)
  n = slice_set m c (Some new)

  -- the slot of the event is written, and no other
  written : Updates (record { slots = m; vacant_key = 0; capacity = 0 }) (record { slots = n; vacant_key = 0; capacity = 0 }) c (Some new)
  written = Updates-with_value (record { slots = m; vacant_key = 0; capacity = 0 }) c new (subst IsSome found refl)

  -- each slot shows the same event
  shows_after : ShowsSame m n
  shows_after k = by (cases_eq k c)
    where
      by : (k ≡ c) ⊎ (k ≢ c) → option_map lone (slot_at n k) ≡ option_map lone (slot_at m k)
      by (inl e) = subst (λ j. option_map lone (slot_at n j) ≡ option_map lone (slot_at m j)) (sym e) (rw (written.changed, ← found) (ap (λ x. Some x) same))
      by (inr d) = ap (option_map lone) (written.others k d)

  -- its dependents alone are changed
  pub changes_after : (P : List ℕ → List ℕ → Type 0) → P old.dependents new.dependents → Changes P (c ∷ []) m n
  changes_after P p = record {
    shows = shows_after;
    changed = λ k h.
        let s : k ≡ c = eqb-true k c (sym (has_one k c) ∙ h) in
        subst (λ j. P (dependents_at m j) (dependents_at n j)) (sym s) (rw (written.changed, ← found) p);
    others = λ k h. ap (λ o. unwrap_or (option_map (λ r. r.dependents) o) []) (written.others k (differ k c (sym (has_one k c) ∙ h)));
  }
