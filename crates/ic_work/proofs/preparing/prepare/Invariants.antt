use Rattle.std.proofs.Common.{◌≡◌, ◌≤◌, vec_len, vec_capacity}
use Rattle.ic_work.proofs.preparing.prepare.Given as goal

abbrev pub invariant-loop-made : goal.invariant-loop-made
invariant-loop-made g l =
    (vec_len l.hints ≡ l._made)
    × (vec_len l.off ≡ l._made)
    × (l.count ≤ vec_capacity l.hints)
    × (l.count ≤ vec_capacity l.off)
