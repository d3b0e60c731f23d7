-- The elements of a first or last part of a list.
use Rattle.std.proofs.Common.{◌≡◌, ℕ, ◌+◌, ◌<◌, List, [], ◌∷◌, ◌++◌, length, take, drop, ◌⊎◌, inl, inr, arith, sym, subst, ◌∙◌}
use Rattle.std.specs.Prelude.{slice_index_or}
use Rattle.std.proofs.lemmas.List.{take_more, drop_more, append-nil}
use Rattle.ic_path.specs.Orders.{IsIn}
use Rattle.ic_path.proofs.Picks.{none_in, in-cons_cases}
use Rattle.ic_path.proofs.InLists.{in-append_cases}

-- one element more is the one at the place
pub in_taken : {X : Type 0} (xs : List X) (i : ℕ) (d : X) → i < length xs → {x : X} → IsIn x (take (i + 1) xs) → IsIn x (take i xs) ⊎ (x ≡ slice_index_or xs i d)
in_taken xs i d below {x} j = elim (in-append_cases (take i xs) (subst (IsIn x) (take_more xs i d below) j)) [
  | inl k ↦ inl k
  | inr k ↦ inr (elim (in-cons_cases k) [ inl e ↦ e | inr nowhere ↦ absurd (none_in nowhere) ])
]

-- the elements of a last part, with one more before it
pub in_dropped : {X : Type 0} (xs : List X) (i : ℕ) (d : X) → i < length xs → {x : X} → IsIn x (drop i xs) → IsIn x (drop (i + 1) xs) ⊎ (x ≡ slice_index_or xs i d)
in_dropped xs i d below {x} j = elim (in-cons_cases (subst (IsIn x) (drop_more xs i d below) j)) [ inl e ↦ inr e | inr k ↦ inl k ]

-- where nothing is behind it is the whole list
pub whole_front : {X : Type 0} (front back all : List X) → front ++ back ≡ all → length back ≡ 0 → front ≡ all
whole_front front [] all parts none = sym (append-nil front) ∙ parts
whole_front front (x ∷ back) all parts none = absurd (omega arith)
