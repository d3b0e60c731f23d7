use Rattle.std.proofs.Common.{◌+◌, ◌≤◌, get_or, arith}
use Rattle.std.proofs.lemmas.List.{take_more}
use Rattle.ic_name.specs.declared.limits.TheConstants.{MAX_LINES}
use Rattle.ic_cause.proofs.RankFacts.{rank_more, greater_within}
use Rattle.ic_cause.proofs.order.rank_of.Goals as goal

pub loop-rank-preserved : goal.loop-rank-preserved
loop-rank-preserved c =
    let i = c.loop-rank.rank-index in
    let rank = get_or c.args.ranks.now i 0 in
    let low : rank ≤ MAX_LINES = c.requires i 0 c.loop-rank-test.true in
    let so_far = c.loop-rank.invariant in record {
      above = rw (take_more c.args.ranks.now i 0 c.loop-rank-test.true, c.rank_with-above.ensures) (rank_more _ _ _ so_far.above);
      within = rw c.rank_with-above.ensures (greater_within c.loop-rank.above (rank + 1) (MAX_LINES + 1) so_far.within (omega (arith, low)));
    }
