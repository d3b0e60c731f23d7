-- Runs of firings on one bench.
use Rattle.std.specs.Prelude.{◌≡◌, ℕ, ◌+◌, ◌++◌, Bool, true, false, List, length, map, Option, Some, None, Result, is_err}
use Rattle.ic_name.specs.Events.{Event}
use Rattle.ic_set.specs.declared.pairs.ActivePair.{ActivePair}
use Rattle.ic_set.specs.declared.pairs.Fired.{Fired}
use Rattle.ic_set.specs.Pairs.{IsPairOf}
use Rattle.ic_journal.specs.Views.{BenchView, set_of}
use Rattle.ic_journal.specs.Benches.{IsBench}
use Rattle.ic_journal.specs.Calls.{FiresPair}
use Rattle.ic_journal.specs.declared.faults.PairFault.{PairFault}
use Rattle.ic_shared.specs.declared.receipts.RunReceipt.{RunReceipt}
use Rattle.ic_shared.specs.Passes.{PassView, told_in}
use Rattle.ic_shared.specs.Receipts.{told_of}
use Rattle.ic_shared.specs.CallLines.{pair_lines}

-- the active pair is fired on the bench, and there is a receipt more for the line that this adds
pub record FiresOn (old : BenchView) (pair : ActivePair) (r : Result Fired PairFault) (ran : List RunReceipt) (new : BenchView) (ran' : List RunReceipt) : Type 0 where
  pub event : Event
  pub bench : IsBench old
  pub its_pair : IsPairOf (set_of old) event pair
  pub fires : FiresPair old event r new
  pub added : List RunReceipt
  pub receipts : ran' ≡ ran ++ added
  pub told : map (told_in new.names) added ≡ told_of (length old.lines) (pair_lines event r)

-- from a bench, a chooser and a list of receipts on so many active pairs were fired in turn, each on the bench that the one before left:
-- the chooser chose it by that bench, and heard the answer; and whether the last answer is an error, which ends the run
pub data Runs {C : Type 0} (chooses : C → BenchView → Option ActivePair → C → Type 0) (hears : C → Result Fired PairFault → C → Type 0)
    (first : BenchView) (began : C) (had : List RunReceipt) : BenchView → C → List RunReceipt → ℕ → Bool → Type 0 where
  begins : Runs chooses hears first began had first began had 0 false
  fires : {old new : BenchView} {c chosen heard : C} {ran ran' : List RunReceipt} {calls : ℕ} {pair : ActivePair} {r : Result Fired PairFault}
      → Runs chooses hears first began had old c ran calls false → chooses c old (Some pair) chosen → FiresOn old pair r ran new ran'
      → hears chosen r heard → Runs chooses hears first began had new heard ran' (calls + 1) (is_err r)
  chooses_none : {bench : BenchView} {c chosen : C} {ran : List RunReceipt} {calls : ℕ}
      → Runs chooses hears first began had bench c ran calls false → chooses c bench None chosen
      → Runs chooses hears first began had bench chosen ran calls false

-- active pairs are fired in a run on some bench, and the pass gets receipts for the lines that this adds; or memory was
-- wanting before the chooser was asked
pub data RunsForPass {C : Type 0} (chooses : C → BenchView → Option ActivePair → C → Type 0) (hears : C → Result Fired PairFault → C → Type 0)
    (began : C) (old : PassView) (left : C) (new : PassView) (calls : ℕ) (refused : Bool) : Type 0 where
  ran : (bench after : BenchView) → Runs chooses hears bench began old.ran after left new.ran calls refused → new.receipts ≡ old.receipts → RunsForPass chooses hears began old left new calls refused
  lacked_memory : left ≡ began → new ≡ old → calls ≡ 0 → refused ≡ true → RunsForPass chooses hears began old left new calls refused

-- why a run ends: as many active pairs were fired as might be, or an error ends it, or the chooser chose none
pub data Ends {C : Type 0} (chooses : C → BenchView → Option ActivePair → C → Type 0) (most calls : ℕ) (refused : Bool) (left : C) : Type 0 where
  whole : calls ≡ most → Ends chooses most calls refused left
  stopped : refused ≡ true → Ends chooses most calls refused left
  chose_none : (bench : BenchView) (c : C) → chooses c bench None left → Ends chooses most calls refused left
