-- What a sweep does to a bench.
use Rattle.std.specs.Prelude.{◌≡◌, ◌+◌, ◌<◌, ◌≤◌, ◌⊎◌, ℕ, List, ◌++◌, length}
use Rattle.ic_name.specs.Events.{Event}
use Rattle.ic_name.specs.declared.limits.TheConstants.{MAX_LINES}
use Rattle.ic_name.specs.declared.lines.Line.{Line}
use Rattle.ic_path.specs.Orders.{Alike}
use Rattle.ic_theory.specs.Starts.{Start}
use Rattle.ic_theory.specs.Active.{IsActive}
use Rattle.ic_theory.specs.Future.{Includes}
use Rattle.ic_theory.specs.Machine.{State, IsDeep, IsFull}
use Rattle.ic_theory.specs.Sound.{IsSound}
use Rattle.ic_set.specs.Views.{standing}
use Rattle.ic_journal.specs.Views.{BenchView, set_of}
use Rattle.ic_journal.specs.Benches.{IsAt}
use Rattle.ic_journal.specs.declared.reducing.end.End.{End}
use Rattle.ic_journal.specs.declared.reducing.end.End.TheVariants.{Normal, Budget, Limit, Memory}
use Rattle.ic_journal.specs.Continuing.{Continues}
use Rattle.ic_journal.specs.Reduced.{IsReduced}
use Rattle.ic_journal.specs.Reducing.{IsNormal, IsLeastActive}
use Rattle.ic_shared.specs.declared.faults.SettleFault.TheVariants.{Mismatch, Missing}
use Rattle.ic_work.specs.declared.swept.SweepFault.{SweepFault}
use Rattle.ic_work.specs.declared.swept.SweepFault.TheVariants as fault
use Rattle.ic_work.specs.Firings.{AreFirings}

-- the workers make calls to fire events in some order, at most as many as the budget says, and what they leave of the budget
-- is fired in the order of one worker
pub record IsSwept (s : Start) (st : State) (budget fired : ℕ) (end : End) (next : State) : Type 0 where
  pub lines : List Line
  pub by_workers : ℕ
  pub left : ℕ
  pub by_one : ℕ
  pub mid : State
  pub firings : AreFirings s lines by_workers st mid
  pub few : length lines ≤ budget
  pub rest : IsReduced s mid left by_one end next
  pub shared_out : budget ≡ by_workers + left
  pub together : fired ≡ by_workers + by_one

-- what stands is what stood before and so many events more
pub record Extends (old : BenchView) (fired : ℕ) (new : BenchView) : Type 0 where
  pub fresh : List Event
  pub count : length fresh ≡ fired
  pub standing : Alike (fresh ++ standing (set_of old)) (standing (set_of new))

-- a firing of the active pair with the least lead would meet a limit
pub record MeetsLimit (v : BenchView) : Type 0 where
  pub event : Event
  pub least : IsLeastActive v.start (standing (set_of v)) event
  pub limit : (length v.lines ≡ MAX_LINES) ⊎ (IsDeep event ⊎ IsFull v.start (standing (set_of v)) event)

-- a pair is active
abbrev pub HasActive : BenchView → Type 0
HasActive v = (e : Event) × IsActive v.start (standing (set_of v)) e

-- why no more events are fired
abbrev pub Ends : BenchView → ℕ → ℕ → End → Type 0
Ends v budget fired Normal = IsNormal v.start (standing (set_of v))
Ends v budget fired Budget = (fired ≡ budget) × HasActive v
Ends v budget fired Limit = (fired < budget) × MeetsLimit v
Ends v budget fired Memory = (fired < budget) × HasActive v

-- each sound set over the start is a part of what stands
abbrev pub HasAll : BenchView → Type 0
HasAll v = (es : List Event) → IsSound v.start es → Includes (standing (set_of v)) es

-- the old bench, a budget, how many events were fired, why no more, and the bench after that
pub record Sweeps (old : BenchView) (budget fired : ℕ) (end : End) (new : BenchView) : Type 0 where
  pub start : new.start ≡ old.start
  pub extends : Extends old fired new
  pub continues : Continues old fired new
  pub within : fired ≤ budget
  pub ends : Ends new budget fired end
  pub whole : end ≡ Normal → HasAll new
  pub swept : (st : State) → IsAt old st → (next : State) × IsSwept old.start st budget fired end next × IsAt new next

-- the bench comes back: as it was, where memory is wanting, else with all its lines and perhaps more; no pass is missing
abbrev pub IsGivenBack : BenchView → SweepFault → Type 0
IsGivenBack old (fault.Memory bench) = bench ≡ old
IsGivenBack old (fault.Settle (Mismatch number bench)) = length old.lines ≤ length bench.lines
IsGivenBack old (fault.Settle (Missing bench)) = ⊥
