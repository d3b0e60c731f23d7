use Rattle.std.proofs.Common.{◌≡◌, ℕ, ◌<◌}
use Rattle.ic_names.specs.Tables.{name_at}
use Rattle.ic_names.proofs.known.KnownNames.same.Given as goal

abbrev pub invariant-loop-place : goal.invariant-loop-place
invariant-loop-place l = (k : ℕ) → k < l.place → name_at l.rows.names k ≡ name_at l.self k
