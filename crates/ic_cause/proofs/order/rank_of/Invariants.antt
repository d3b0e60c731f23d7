use Rattle.std.proofs.Common.{◌≤◌, ◌+◌, take}
use Rattle.ic_name.specs.declared.limits.TheConstants.{MAX_LINES}
use Rattle.ic_cause.specs.Ranks.{IsRankAbove}
use Rattle.ic_cause.proofs.order.rank_of.Given as goal

abbrev pub invariant-loop-rank : goal.invariant-loop-rank
invariant-loop-rank l = record {
  above : IsRankAbove (take l.rank-index l.ranks) l.above;
  within : l.above ≤ MAX_LINES + 1;
}
