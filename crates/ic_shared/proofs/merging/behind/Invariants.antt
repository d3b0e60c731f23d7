use Rattle.std.proofs.Common.{ℕ, ◌<◌, ◌≤◌, List}
use Rattle.ic_name.specs.Names.{Name}
use Rattle.ic_shared.specs.Passes.{columns}
use Rattle.ic_shared.specs.Settles.{IsNext}
use Rattle.ic_shared.proofs.merging.behind.Given as goal

abbrev pub invariant-loop-c : goal.invariant-loop-c
invariant-loop-c g l = (ns : List Name) (q : ℕ) → q < l.c → (n : ℕ) → IsNext (columns ns l.passes) l.cursors q n → l.number ≤ n
