use Rattle.std.proofs.Common.{◌≡◌, ℕ, ◌<◌, ◌≤◌, List, drop, length}
use Rattle.std.specs.Prelude.{slice_get, Some, slice_index}
use Rattle.ic_shared.specs.declared.merging.TheConstants.{MAX_COLUMNS}
use Rattle.ic_shared.specs.Passes.{Told, columns}
use Rattle.ic_shared.specs.Settles.{SettlesTo}
use Rattle.ic_shared.proofs.merging.merge.Given as goal

abbrev pub invariant-loop-j : goal.invariant-loop-j
invariant-loop-j g l = SettlesTo l.base (drop l.base l.bench.lines) (columns l.bench.names l.passes) l.cursors l.j × (length l.cursors ≡ MAX_COLUMNS) × ((c : ℕ) → slice_index l.cursors c ≤ l.j)

abbrev pub invariant-loop-c : goal.invariant-loop-c
invariant-loop-c g l = (q : ℕ) (xs : List Told) → q < l.c → slice_get (columns l.bench.names l.passes) q ≡ Some xs → length xs ≤ slice_index l.cursors q
