-- Names by where they come from.
use Rattle.std.proofs.Common.{◌≡◌, ℕ, ◌+◌, ◌<◌, ◌≤◌, List, [], ◌∷◌, ◌++◌, length, refl, sym, ◌∙◌, ap, arith, subst, length-append, ◌⊎◌, inl, inr}
use Rattle.std.proofs.lemmas.Bool.{cases_lt}
use Rattle.std.proofs.lemmas.List.{get_or_append_left, get_or_push}
use Rattle.ic_name.specs.Names.{Name}
use Rattle.ic_names.specs.declared.entry.Origin.{Origin}
use Rattle.ic_names.specs.declared.entry.Origin.TheVariants.{Start}
use Rattle.ic_names.specs.Tables.{name_at}
use Rattle.ic_names.specs.Rows.{name_from, IsBefore}
use Rattle.ic_names.specs.Known.{names_by, names_told, origin_at, AreTold}
use Rattle.ic_names.proofs.Grown.{name_at-old, name_at-new, from_still}

-- as many names as origins
names_by-length : (ns : List Name) (os : List Origin) → length (names_by ns os) ≡ length ns + length os
names_by-length ns [] = omega arith
names_by-length ns (o ∷ os) = omega (arith, names_by-length (ns ++ name_from ns o ∷ []) os, length-append ns (name_from ns o ∷ []))

pub names_told-length : (os : List Origin) → length (names_told os) ≡ length os
names_told-length os = omega (arith, names_by-length [] os)

-- a place of a name is one of an origin
pub told_inside : (os : List Origin) (k : ℕ) → k < length (names_told os) → k < length os
told_inside os k h = omega (arith, names_told-length os)

-- one origin more
names_by-push : (ns : List Name) (os : List Origin) (o : Origin) → names_by ns (os ++ o ∷ []) ≡ names_by ns os ++ name_from (names_by ns os) o ∷ []
names_by-push ns [] o = refl
names_by-push ns (x ∷ os) o = names_by-push (ns ++ name_from ns x ∷ []) os o

pub names_told-push : (os : List Origin) (o : Origin) → names_told (os ++ o ∷ []) ≡ names_told os ++ name_from (names_told os) o ∷ []
names_told-push os o = names_by-push [] os o

-- each still says what holds, with one more that speaks of places before it
pub told_push : (os : List Origin) (o : Origin) → AreTold os → IsBefore (length (names_told os)) o → AreTold (os ++ o ∷ [])
told_push os o told before = record { named = named; parents = parents }
  where
    n : Name
    n = name_from (names_told os) o

    here : IsBefore (length os) o
    here = subst (λ k. IsBefore k o) (names_told-length os) before

    split : (k : ℕ) → k < length (os ++ o ∷ []) → (k < length os) ⊎ (k ≡ length os)
    split k h = by (cases_lt k (length os))
      where
        by : (k < length os) ⊎ (length os ≤ k) → (k < length os) ⊎ (k ≡ length os)
        by (inl low) = inl low
        by (inr high) = inr (omega (arith, length-append os (o ∷ [])))

    old : (k : ℕ) → k < length os → origin_at (os ++ o ∷ []) k ≡ origin_at os k
    old k h = get_or_append_left os (o ∷ []) (Start 0) k h

    new : (k : ℕ) → k ≡ length os → origin_at (os ++ o ∷ []) k ≡ o
    new k h = get_or_push os o (Start 0) k (sym h)

    named' : (k : ℕ) → k < length (os ++ o ∷ []) → name_at (names_told os ++ n ∷ []) k ≡ name_from (names_told os ++ n ∷ []) (origin_at (os ++ o ∷ []) k)
    named' k h = by (split k h)
      where
        by : (k < length os) ⊎ (k ≡ length os) → name_at (names_told os ++ n ∷ []) k ≡ name_from (names_told os ++ n ∷ []) (origin_at (os ++ o ∷ []) k)
        by (inl low) =
            name_at-old (names_told os) n k (omega (arith, names_told-length os)) ∙ told.named k low
            ∙ sym (from_still (names_told os) n (origin_at os k) k (told.parents k low) (omega (arith, names_told-length os)))
            ∙ ap (λ x. name_from (names_told os ++ n ∷ []) x) (sym (old k low))
        by (inr e) =
            name_at-new (names_told os) n k (omega (arith, names_told-length os))
            ∙ sym (from_still (names_told os) n o (length os) here (omega (arith, names_told-length os)))
            ∙ ap (λ x. name_from (names_told os ++ n ∷ []) x) (sym (new k e))

    named : (k : ℕ) → k < length (os ++ o ∷ []) → name_at (names_told (os ++ o ∷ [])) k ≡ name_from (names_told (os ++ o ∷ [])) (origin_at (os ++ o ∷ []) k)
    named k h = subst (λ ns. name_at ns k ≡ name_from ns (origin_at (os ++ o ∷ []) k)) (sym (names_told-push os o)) (named' k h)

    parents : (k : ℕ) → k < length (os ++ o ∷ []) → IsBefore k (origin_at (os ++ o ∷ []) k)
    parents k h = by (split k h)
      where
        by : (k < length os) ⊎ (k ≡ length os) → IsBefore k (origin_at (os ++ o ∷ []) k)
        by (inl low) = subst (λ x. IsBefore k x) (sym (old k low)) (told.parents k low)
        by (inr e) = subst (λ x. IsBefore k x) (sym (new k e)) (subst (λ j. IsBefore j o) (sym e) here)
