-- Why passes don't settle.
use Rattle.std.specs.Prelude.{◌≡◌, ◌≢◌, ◌+◌, ◌≤◌, ℕ, List, length}
use Rattle.ic_name.specs.declared.numbers.TheConstants.{MISMATCH, MISSING}
use Rattle.ic_shared.specs.declared.faults.SettleFault.{SettleFault}
use Rattle.ic_shared.specs.declared.faults.SettleFault.TheVariants.{Mismatch, Missing}
use Rattle.ic_shared.specs.Passes.{PassView, added_by_all}
use Rattle.ic_shared.specs.Openings.{OpeningView}
use Rattle.ic_shared.specs.Agrees.{IsFalseAt}

-- how many lines the opening and the passes tell of together
abbrev pub told_by : OpeningView → List PassView → ℕ
told_by opening passes = length opening.lines + added_by_all passes

-- When each fault comes, and that the bench that comes back has the lines of which they tell.
abbrev pub FaultIs : OpeningView → List PassView → SettleFault → Type 0
FaultIs opening passes (Missing bench) = (length passes ≢ opening.passes) × (told_by opening passes ≤ length bench.lines)
FaultIs opening passes (Mismatch number bench) = (length passes ≡ opening.passes) × (length bench.lines ≡ told_by opening passes) × IsFalseAt opening passes bench number

-- the number of a fault
abbrev pub settle_number : SettleFault → ℕ
settle_number (Mismatch number bench) = MISMATCH
settle_number (Missing bench) = MISSING
