-- A list of names with one name more.
use Rattle.std.proofs.Common.{◌≡◌, ◌≢◌, ℕ, ◌+◌, ◌^◌, ◌<◌, ◌≤◌, List, [], ◌∷◌, ◌++◌, length, Option, Some, None, refl, sym, ◌∙◌, ap, arith, length-append, ◌⊎◌, inl, inr}
use Rattle.std.proofs.lemmas.List.{get_or_append_left, get_or_push, same_from_push}
use Rattle.std.proofs.lemmas.List.Elements.{All-push}
use Rattle.std.proofs.lemmas.Bool.{cases_lt}
use Rattle.ic_name.specs.Names.{Name, IsName, start_name, child_name}
use Rattle.ic_names.specs.declared.entry.Origin.{Origin}
use Rattle.ic_names.specs.declared.entry.Origin.TheVariants.{Start, Child}
use Rattle.ic_names.specs.Tables.{name_at, StandsAt, IsAbsent, IsPlaceOf, EachOnce, HaveParents, IsTable}
use Rattle.ic_names.specs.Rows.{name_from, IsBefore}

-- a child has a digit, and a start agent none
pub child_not_start : (n : Name) (d k : ℕ) → child_name n d ≡ start_name k → ⊥
child_not_start n d k e =
    let longer : length (n.digits ++ d ∷ []) ≡ 0 = ap (λ m. length m.digits) e in
    omega (arith, length-append n.digits (d ∷ []))

-- no name is its own child
pub child_not_self : (n : Name) (d : ℕ) → n ≡ child_name n d → ⊥
child_not_self n d e =
    let longer : length n.digits ≡ length (n.digits ++ d ∷ []) = ap (λ m. length m.digits) e in
    omega (arith, length-append n.digits (d ∷ []))

-- one child has one parent
pub child_same : (m n : Name) (d e : ℕ) → child_name m d ≡ child_name n e → (m ≡ n) × (d ≡ e)
child_same m n d e h =
    let parts = same_from_push m.digits n.digits d e (ap (λ a. a.digits) h) in
    let s : m.start ≡ n.start = ap (λ a. a.start) h in
    let ds : m.digits ≡ n.digits = parts.0 in
    (λ i. record { start = s i; digits = ds i }, parts.1)

-- one name more makes the list one longer
pub one_longer : (ns : List Name) (n : Name) → length (ns ++ n ∷ []) ≡ length ns + 1
one_longer ns n = omega (arith, length-append ns (n ∷ []))

-- a name that was there
pub name_at-old : (ns : List Name) (n : Name) (k : ℕ) → k < length ns → name_at (ns ++ n ∷ []) k ≡ name_at ns k
name_at-old ns n k h = get_or_append_left ns (n ∷ []) (start_name 0) k h

-- the new name
pub name_at-new : (ns : List Name) (n : Name) (k : ℕ) → length ns ≡ k → name_at (ns ++ n ∷ []) k ≡ n
name_at-new ns n k h = get_or_push ns n (start_name 0) k h

-- what stood stands
pub stands_old : (ns : List Name) (n m : Name) (k : ℕ) → StandsAt ns m k → StandsAt (ns ++ n ∷ []) m k
stands_old ns n m k h = let lt = h.within in record { within = omega (arith, one_longer ns n); named = name_at-old ns n k lt ∙ h.named }

-- the new name stands behind
pub stands_new : (ns : List Name) (n : Name) (k : ℕ) → k ≡ length ns → StandsAt (ns ++ n ∷ []) n k
stands_new ns n k e = record { within = omega (arith, one_longer ns n); named = name_at-new ns n k (sym e) }

-- what was absent is, unless it is the new name
pub absent_still : (ns : List Name) (n m : Name) → IsAbsent ns m → m ≢ n → IsAbsent (ns ++ n ∷ []) m
absent_still ns n m absent apart k within named = by (cases_lt k (length ns))
  where
    by : (k < length ns) ⊎ (length ns ≤ k) → ⊥
    by (inl low) = absent k low (sym (name_at-old ns n k low) ∙ named)
    by (inr high) = apart (sym named ∙ name_at-new ns n k (omega (arith, one_longer ns n)))

-- what is said of the place of a name, before and after
pub data Turns (m n : Name) (k : ℕ) (o o' : Option ℕ) : Type 0 where
  placed : m ≡ n → o' ≡ Some k → Turns m n k o o'
  kept : m ≢ n → o' ≡ o → Turns m n k o o'

pub place_grows : (ns : List Name) (n m : Name) (k : ℕ) (o o' : Option ℕ) → k ≡ length ns → Turns m n k o o' → IsPlaceOf ns m o → IsPlaceOf (ns ++ n ∷ []) m o'
place_grows ns n m k o o' at (placed e p) h = rw (p, e) (stands_new ns n k at)
place_grows ns n m k None o' at (kept ne p) h = rw p (absent_still ns n m h ne)
place_grows ns n m k (Some j) o' at (kept ne p) h = rw p (stands_old ns n m j h)

-- each name stands once still
once_still : (ns : List Name) (n : Name) → EachOnce ns → IsAbsent ns n → EachOnce (ns ++ n ∷ [])
once_still ns n once absent i j inside_i inside_j same = by (cases_lt i (length ns)) (cases_lt j (length ns))
  where
    by : (i < length ns) ⊎ (length ns ≤ i) → (j < length ns) ⊎ (length ns ≤ j) → i ≡ j
    by (inl a) (inl b) = once i j a b (sym (name_at-old ns n i a) ∙ same ∙ name_at-old ns n j b)
    by (inl a) (inr b) = absurd (absent i a (sym (name_at-old ns n i a) ∙ same ∙ name_at-new ns n j (omega (arith, one_longer ns n))))
    by (inr a) (inl b) = absurd (absent j b (sym (name_at-old ns n j b) ∙ sym same ∙ name_at-new ns n i (omega (arith, one_longer ns n))))
    by (inr a) (inr b) = omega (arith, one_longer ns n)

-- before each child stands its parent still
parents_still : (ns : List Name) (n : Name) → HaveParents ns → ((m : Name) (d : ℕ) → n ≡ child_name m d → (p : ℕ) × (p < length ns) × (name_at ns p ≡ m)) → HaveParents (ns ++ n ∷ [])
parents_still ns n parents there m d k stands = by (cases_lt k (length ns))
  where
    by : (k < length ns) ⊎ (length ns ≤ k) → (p : ℕ) × (p < k) × StandsAt (ns ++ n ∷ []) m p
    by (inl low) =
        let parent = parents m d k (record { within = low; named = sym (name_at-old ns n k low) ∙ stands.named }) in
        (parent.0, parent.1, stands_old ns n m parent.0 parent.2)
    by (inr high) =
        let last : length ns ≡ k = (let w = stands.within in omega (arith, one_longer ns n)) in
        let parent = there m d (sym (name_at-new ns n k last) ∙ stands.named) in
        (parent.0, omega (arith, parent.1), stands_old ns n m parent.0 (record { within = parent.1; named = parent.2 }))

pub table_grows : (ns : List Name) (n : Name) → IsTable ns → IsName n → IsAbsent ns n → ((m : Name) (d : ℕ) → n ≡ child_name m d → (p : ℕ) × (p < length ns) × (name_at ns p ≡ m)) → length ns + 1 < 2 ^ 32 → IsTable (ns ++ n ∷ [])
table_grows ns n table is absent there few = record {
  once = once_still ns n table.once absent;
  proper = All-push IsName ns n table.proper is;
  parents = parents_still ns n table.parents there;
  few = omega (arith, one_longer ns n);
}

-- what an origin says stays
pub from_still : (ns : List Name) (n : Name) (o : Origin) (k : ℕ) → IsBefore k o → k ≤ length ns → name_from (ns ++ n ∷ []) o ≡ name_from ns o
from_still ns n (Start s) k before low = refl
from_still ns n (Child d p) k before low = ap (λ m. child_name m d) (name_at-old ns n p (omega (arith, before.0)))
