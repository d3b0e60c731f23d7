-- The rank of an event over those of its causes, which are looked up under their ids.
use Rattle.std.proofs.Common.{◌≡◌, ℕ, ◌+◌, ◌≤◌, ◌<◌, max, List, [], ◌∷◌, ◌++◌, ◌⊎◌, inl, inr, refl, sym, arith, ◌∙◌, subst}
use Rattle.std.proofs.Math.Nat.{le-max_left, le-max_right, max-eq_left, max-eq_right}
use Rattle.std.proofs.lemmas.Bool.{cases_lt}
use Rattle.ic_name.specs.declared.ids.EventId.{EventId}
use Rattle.ic_path.specs.Orders.{IsIn}
use Rattle.ic_path.proofs.Picks.{none_in, pick_before}
use Rattle.ic_path.proofs.ListEnds.{in-end_cases, in_end}
use Rattle.ic_roster.specs.Rosters.{Stander, HaveOwnLines}
use Rattle.ic_set.specs.Admission.{IsRankOver}
use Rattle.ic_set.proofs.Namings.{same_stander}

-- no ids yet
pub rank_over_none : (ss : List Stander) → IsRankOver ss [] 0
rank_over_none ss = record { above = λ x i j. absurd (none_in j); least = inl refl }

-- one id more
pub rank_more : (ss : List Stander) (ids : List EventId) (rank : ℕ) (x : Stander) → HaveOwnLines ss → IsRankOver ss ids rank → IsIn x ss → IsRankOver ss (ids ++ x.id ∷ []) (max rank (x.rank + 1))
rank_more ss ids rank x own h i = record { above = above; least = least (cases_lt rank (x.rank + 1)) }
  where
    above : (y : Stander) → IsIn y ss → IsIn y.id (ids ++ x.id ∷ []) → y.rank + 1 ≤ max rank (x.rank + 1)
    above y k j = elim (in-end_cases j) [
      | inl e ↦ subst (λ (z : Stander). z.rank + 1 ≤ max rank (x.rank + 1)) (sym (same_stander ss y x own k i (inl e))) (le-max_right rank (x.rank + 1))
      | inr m ↦ (let before = h.above y k m in let more = le-max_left rank (x.rank + 1) in omega arith)
    ]

    still : (rank ≡ 0) ⊎ ((y : Stander) × IsIn y ss × IsIn y.id ids × (rank ≡ y.rank + 1)) → x.rank + 1 ≤ rank → (max rank (x.rank + 1) ≡ 0) ⊎ ((y : Stander) × IsIn y ss × IsIn y.id (ids ++ x.id ∷ []) × (max rank (x.rank + 1) ≡ y.rank + 1))
    still (inl z) low = absurd (omega arith)
    still (inr (y, k, j, e)) low = inr (y, k, (_, pick_before (x.id ∷ []) j.1), max-eq_left low ∙ e)

    least : (rank < x.rank + 1) ⊎ (x.rank + 1 ≤ rank) → (max rank (x.rank + 1) ≡ 0) ⊎ ((y : Stander) × IsIn y ss × IsIn y.id (ids ++ x.id ∷ []) × (max rank (x.rank + 1) ≡ y.rank + 1))
    least (inl above) = inr (x, i, in_end x.id ids, max-eq_right (omega arith))
    least (inr low) = still h.least low
