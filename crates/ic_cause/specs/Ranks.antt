-- The rank above some ranks.
use Rattle.std.specs.Prelude.{◌≡◌, ℕ, ◌+◌, ◌≤◌, List, [], ◌⊎◌}
use Rattle.ic_path.specs.Orders.{IsIn}

-- one more than the greatest of the ranks, and 0 where there are none
pub record IsRankAbove (ranks : List ℕ) (rank : ℕ) : Type 0 where
  pub above : (r : ℕ) → IsIn r ranks → r + 1 ≤ rank
  pub least : ((ranks ≡ []) × (rank ≡ 0)) ⊎ ((r : ℕ) × IsIn r ranks × (rank ≡ r + 1))
