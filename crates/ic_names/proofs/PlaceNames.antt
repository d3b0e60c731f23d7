-- The names at the places of a table, and beyond it.
use Rattle.std.proofs.Common.{◌≡◌, ◌≢◌, ℕ, ◌<◌, ◌≤◌, List, [], ◌∷◌, length, ◌⊎◌, inl, inr, refl, sym, ◌∙◌, ap, arith, subst}
use Rattle.std.proofs.lemmas.Bool.{cases_lt}
use Rattle.std.proofs.lemmas.List.{get_or_past}
use Rattle.std.proofs.lemmas.List.Elements.{All-nil}
use Rattle.std.specs.declared.cmp.Ordering.TheVariants.{Equal}
use Rattle.std.specs.Ordering.{nat_cmp}
use Rattle.std.specs.Cmp.Lexicographic.{slice_cmp}
use Rattle.ic_name.specs.Names.{Name, name_cmp, start_name}
use Rattle.ic_names.specs.Keys.{IsProper, key_of}
use Rattle.ic_names.specs.Tables.{name_at, IsTable}
use Rattle.ic_names.proofs.KeyOrders.{name_proper, key_tied, key-start, tied_order}

-- beyond the table stands the least name
past_name : (ns : List Name) (k : ℕ) → length ns ≤ k → name_at ns k ≡ start_name 0
past_name ns k h = get_or_past ns k (start_name 0) h

pub past_key : (ns : List Name) (k : ℕ) → length ns ≤ k → 0 ≡ key_of (name_at ns k)
past_key ns k h = sym (ap key_of (past_name ns k h) ∙ key-start 0)

-- each of them is a name
pub place_proper : (ns : List Name) → IsTable ns → (k : ℕ) → IsProper (name_at ns k)
place_proper ns table k = by (cases_lt k (length ns))
  where
    by : (k < length ns) ⊎ (length ns ≤ k) → IsProper (name_at ns k)
    by (inl low) = name_proper _ (table.proper k (start_name 0) low)
    by (inr high) = subst IsProper (sym (past_name ns k high)) (record { starts = omega arith; digit = All-nil (λ d. d < 4) })

-- a place with a key is of the table
pub keyed_inside : (ns : List Name) (k : ℕ) → key_of (name_at ns k) ≢ 0 → k < length ns
keyed_inside ns k keyed = by (cases_lt k (length ns))
  where
    by : (k < length ns) ⊎ (length ns ≤ k) → k < length ns
    by (inl low) = low
    by (inr high) = absurd (keyed (sym (past_key ns k high)))

-- two names without digits are one where their start numbers are
no_digits : (xs ys : List ℕ) → length xs ≡ 0 → length ys ≡ 0 → Equal ≡ slice_cmp nat_cmp xs ys
no_digits [] [] h k = refl
no_digits (x ∷ xs) ys h k = absurd (omega (arith, h))
no_digits [] (y ∷ ys) h k = absurd (omega (arith, k))

-- names of the least key are one name
pub least_equal : (a b : Name) → IsProper a → IsProper b → key_of a ≡ key_of b → key_of a ≡ 0 → Equal ≡ name_cmp a b
least_equal a b x y same none =
    let tied = key_tied a b x y same in
    let low : length a.digits ≡ 0 = omega (arith, none) in
    let low' : length b.digits ≡ 0 = omega (arith, none, tied.0) in
    no_digits a.digits b.digits low low' ∙ tied_order a b tied.0 tied.1
