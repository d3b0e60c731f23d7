use Rattle.std.proofs.Common.{◌≡◌, take}
use Rattle.ic_names.proofs.known.KnownNames.of.Given as goal

abbrev pub invariant-loop-place : goal.invariant-loop-place
invariant-loop-place l = l.known ≡ take l.place l.rows.names
