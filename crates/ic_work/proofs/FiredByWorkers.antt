-- What the workers of a sweep do to a bench.
use Rattle.std.specs.Prelude.{◌≡◌, ◌≤◌, ℕ, length}
use Rattle.ic_theory.specs.Machine.{State}
use Rattle.ic_journal.specs.Views.{BenchView}
use Rattle.ic_journal.specs.Benches.{IsAt}
use Rattle.ic_journal.specs.Continuing.{Continues}
use Rattle.ic_work.specs.Firings.{AreFirings}
use Rattle.ic_work.specs.Sweeps.{Extends}

-- so many events are fired, in some order, by what the history goes on with, which is no more lines than the budget
pub record FiredByWorkers (old : BenchView) (budget by_workers : ℕ) (new : BenchView) : Type 0 where
  pub start : new.start ≡ old.start
  pub continues : Continues old by_workers new
  pub extends : Extends old by_workers new
  pub few : length continues.added ≤ budget
  pub within : by_workers ≤ budget
  pub fired : (st : State) → IsAt old st → (next : State) × AreFirings old.start continues.added by_workers st next × IsAt new next
