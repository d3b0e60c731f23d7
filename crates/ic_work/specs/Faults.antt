-- The number of a fault.
use Rattle.std.specs.Prelude.{ℕ}
use Rattle.ic_name.specs.declared.numbers.TheConstants.{MEMORY}
use Rattle.ic_shared.specs.Faults.{settle_number}
use Rattle.ic_work.specs.declared.swept.SweepFault.{SweepFault}
use Rattle.ic_work.specs.declared.swept.SweepFault.TheVariants.{Memory, Settle}

-- the number of a sweep's fault
abbrev pub sweep_number : SweepFault → ℕ
sweep_number (Memory bench) = MEMORY
sweep_number (Settle f) = settle_number f
