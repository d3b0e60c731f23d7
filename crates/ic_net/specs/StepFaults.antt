-- Why a net makes no step.
use Rattle.std.specs.Prelude.{ℕ}
use Rattle.ic_name.specs.Events.{Event}
use Rattle.ic_name.specs.declared.numbers.TheConstants.{DEEP, MEMORY, NOT_ACTIVE}
use Rattle.ic_theory.specs.Nets.{Net}
use Rattle.ic_theory.specs.Steps.{Meets}
use Rattle.ic_theory.specs.Machine.{IsDeep}
use Rattle.ic_net.specs.declared.fault.StepFault.{StepFault}
use Rattle.ic_net.specs.declared.fault.StepFault.TheVariants.{NotActive, Deep, Memory}

-- the number of a fault
abbrev pub step_number : StepFault → ℕ
step_number NotActive = NOT_ACTIVE
step_number Deep = DEEP
step_number Memory = MEMORY

-- Why a step is refused: the event isn't active in the net, else its children would be too deep; memory runs out only
-- where neither holds.
abbrev pub IsRefused : Net → Event → StepFault → Type 0
IsRefused n e NotActive = Meets n e → ⊥
IsRefused n e Deep = Meets n e × IsDeep e
IsRefused n e Memory = Meets n e × (IsDeep e → ⊥)
