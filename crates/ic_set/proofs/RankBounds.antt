-- Ranks are below the number of events.
use Rattle.std.proofs.Common.{◌≡◌, ℕ, suc, zero, ◌+◌, ◌≤◌, ◌<◌, List, length, map, ◌⊎◌, inl, inr, refl, subst, arith}
use Rattle.std.proofs.lemmas.Bool.{cases_lt}
use Rattle.std.proofs.lemmas.List.{length-map}
use Rattle.ic_name.specs.Events.{Event}
use Rattle.ic_path.specs.Orders.{IsIn}
use Rattle.ic_path.proofs.Picks.{length-pick, in_others}
use Rattle.ic_theory.specs.Starts.{Start}
use Rattle.ic_theory.specs.Causes.{IsCause, IsRank}
use Rattle.ic_theory.proofs.Ranks.{cause_in}
use Rattle.ic_path.proofs.InLists.{in-map}

-- a list that has each number below a bound is at least as long
pub each_below_length : (n : ℕ) (ks : List ℕ) → ((k : ℕ) → k < n → IsIn k ks) → n ≤ length ks
each_below_length zero ks each = omega arith
each_below_length (suc n) ks each = by (each n (omega arith)) (λ rest f. each_below_length n rest f)
  where
    left : (k : ℕ) {rest : List ℕ} → k < n → (k ≡ n) ⊎ IsIn k rest → IsIn k rest
    left k h (inl e) = absurd (omega arith)
    left k h (inr i) = i

    by : IsIn n ks → ((rest : List ℕ) → ((k : ℕ) → k < n → IsIn k rest) → n ≤ length rest) → suc n ≤ length ks
    by i shorter =
        let few = shorter i.0 (λ k h. left k h (in_others i.1 (each k (omega (arith, h))))) in
        let one = length-pick i.1 in
        omega arith

module _ (s : Start) (es : List Event) (rank : Event → ℕ) (is : IsRank s es rank) where
  -- below the rank of an event each number is the rank of one
  each_rank : (n : ℕ) (e : Event) → IsIn e es → rank e ≡ n → (k : ℕ) → k < suc n → IsIn k (map rank es)
  each_rank zero e i q k h = let z : rank e ≡ k = omega arith in subst (λ j. IsIn j (map rank es)) z (in-map rank i)
  each_rank (suc n) e i q k h = by (is.least e i) (λ c j m. each_rank n c j m k)
    where
      by_cause : (c : Event) → IsCause s es e c → rank e ≡ rank c + 1 → (IsIn c es → rank c ≡ n → k < suc n → IsIn k (map rank es)) → (k ≡ suc n) ⊎ (k < suc n) → IsIn k (map rank es)
      by_cause c q' r f (inl z) = let y : rank e ≡ k = omega arith in subst (λ j. IsIn j (map rank es)) y (in-map rank i)
      by_cause c q' r f (inr l) = f (cause_in s q') (omega arith) l

      split : (k ≡ suc n) ⊎ (k < suc n)
      split = elim (cases_lt k (suc n)) [ inl l ↦ inr l | inr l ↦ inl (omega arith) ]

      by : (rank e ≡ 0) ⊎ ((c : Event) × IsCause s es e c × (rank e ≡ rank c + 1)) → ((c : Event) → IsIn c es → rank c ≡ n → k < suc n → IsIn k (map rank es)) → IsIn k (map rank es)
      by (inl z) f = absurd (omega arith)
      by (inr w) f = by_cause w.0 w.1 w.2 (f w.0) split

  -- the rank of an event is below the number of events
  pub rank_below_length : (e : Event) → IsIn e es → rank e < length es
  rank_below_length e i =
      let few = each_below_length (suc (rank e)) (map rank es) (λ k h. each_rank (rank e) e i refl k h) in
      let long = length-map es rank in
      omega arith
