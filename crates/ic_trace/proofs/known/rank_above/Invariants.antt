use Rattle.std.proofs.Common.{◌≤◌, take, length}
use Rattle.ic_trace.specs.Known.{IsRankAbove}
use Rattle.ic_trace.proofs.known.rank_above.Given as goal

-- the rank so far is that above the causes so far
abbrev pub invariant-loop-cause : goal.invariant-loop-cause
invariant-loop-cause l = record { low : l.rank ≤ length l.known; above : IsRankAbove l.known (take l.cause-index l.causes) l.rank }
