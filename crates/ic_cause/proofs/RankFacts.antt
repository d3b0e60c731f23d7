-- The rank above some ranks, as more come.
use Rattle.std.proofs.Common.{◌≡◌, ℕ, ◌+◌, ◌≤◌, ◌<◌, List, [], ◌∷◌, ◌++◌, ◌⊎◌, inl, inr, refl, arith}
use Rattle.ic_path.specs.Orders.{IsIn}
use Rattle.ic_cause.specs.Ranks.{IsRankAbove}
use Rattle.ic_path.proofs.ListEnds.{in-end_cases, in_end, in_before}
use Rattle.std.proofs.Math.Nat.{max-eq_left, max-eq_right}
use Rattle.std.proofs.lemmas.Bool.{cases_lt}
use Rattle.std.proofs.Common.{max, ◌<◌, ◌≤◌, ◌⊎◌, inl, inr, sym, subst, arith}

-- a rank that is no less than the one above the others moves it
pub rank_moves : (rs : List ℕ) (above r : ℕ) → IsRankAbove rs above → above ≤ r → IsRankAbove (rs ++ r ∷ []) (r + 1)
rank_moves rs above r is h = record {
  above = λ s i. by s (in-end_cases i);
  least = inr (r, in_end r rs, refl);
}
  where
    by : (s : ℕ) → (s ≡ r) ⊎ IsIn s rs → s + 1 ≤ r + 1
    by s (inl e) = omega arith
    by s (inr i) = let k = is.above s i in omega arith

-- a lesser one leaves it
pub rank_stays : (rs : List ℕ) (above r : ℕ) → IsRankAbove rs above → r < above → IsRankAbove (rs ++ r ∷ []) above
rank_stays rs above r is h = record {
  above = λ s i. by s (in-end_cases i);
  least = least is.least;
}
  where
    by : (s : ℕ) → (s ≡ r) ⊎ IsIn s rs → s + 1 ≤ above
    by s (inl e) = omega arith
    by s (inr i) = is.above s i

    least : ((rs ≡ []) × (above ≡ 0)) ⊎ ((s : ℕ) × IsIn s rs × (above ≡ s + 1)) → ((rs ++ r ∷ [] ≡ []) × (above ≡ 0)) ⊎ ((s : ℕ) × IsIn s (rs ++ r ∷ []) × (above ≡ s + 1))
    least (inl e) = let z = e.1 in absurd (omega arith)
    least (inr s) = inr (s.0, in_before r s.1, s.2)

-- one more rank, of any size
pub rank_more : (rs : List ℕ) (above r : ℕ) → IsRankAbove rs above → IsRankAbove (rs ++ r ∷ []) (max above (r + 1))
rank_more rs above r is = by (cases_lt r above)
  where
    by : (r < above) ⊎ (above ≤ r) → IsRankAbove (rs ++ r ∷ []) (max above (r + 1))
    by (inl low) = subst (IsRankAbove (rs ++ r ∷ [])) (sym (max-eq_left (omega (arith, low)))) (rank_stays rs above r is low)
    by (inr high) = subst (IsRankAbove (rs ++ r ∷ [])) (sym (max-eq_right (omega (arith, high)))) (rank_moves rs above r is high)

-- the greater of two numbers is within what both are within
pub greater_within : (a b n : ℕ) → a ≤ n → b ≤ n → max a b ≤ n
greater_within a b n h k = by (cases_lt a b)
  where
    by : (a < b) ⊎ (b ≤ a) → max a b ≤ n
    by (inl less) = subst (λ m. m ≤ n) (sym (max-eq_right (omega (arith, less)))) k
    by (inr more) = subst (λ m. m ≤ n) (sym (max-eq_left more)) h
