use Rattle.std.specs.Prelude.{◌≢◌, ◌<◌, ℕ, Some, slice_get}
use Rattle.ic_answer.proofs.wires.number_of.Given as goal

-- no name before this one is called so
abbrev pub invariant-loop-number : goal.invariant-loop-number
invariant-loop-number l = (i : ℕ) → i < l.number → slice_get l.names i ≢ Some l.called
