use Rattle.std.proofs.Common.{◌≡◌, ◌<◌, ◌↔◌, length}
use Rattle.ic_names.specs.Tables.{name_at}
use Rattle.ic_names.proofs.known.KnownNames.is.Given as goal

abbrev pub invariant-loop-then : goal.invariant-loop-then
invariant-loop-then l = record {
  here_in : l.here < length l.rows.names;
  then_in : l.then < length l.self;
  same : (name_at l.rows.names l.place ≡ name_at l.self l.known) ↔ (name_at l.rows.names l.here ≡ name_at l.self l.then);
}

abbrev pub decreases-loop-then : goal.decreases-loop-then
decreases-loop-then l = l.then
