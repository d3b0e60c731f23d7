-- Why a list of events is not replayed.
use Rattle.std.specs.Prelude.{◌≤◌, ℕ, List, [], length, Option, Some, None, take, slice_get}
use Rattle.ic_name.specs.Events.{Event}
use Rattle.ic_theory.specs.Starts.{Start}
use Rattle.ic_theory.specs.Nets.{Net, net_of}
use Rattle.ic_theory.specs.Steps.{steps, AreDefined}
use Rattle.ic_net.specs.declared.fault.StepFault.{StepFault}
use Rattle.ic_net.specs.declared.fault.StepFault.TheVariants.{Memory}
use Rattle.ic_net.specs.StepFaults.{IsRefused}

-- the step by the event, if there is one, is refused so; memory can run out before the first step, too
abbrev pub IsRefusedAt : Net → Option Event → StepFault → Type 0
IsRefusedAt n e Memory = Unit {0}
IsRefusedAt n None f = ⊥
IsRefusedAt n (Some e) f = IsRefused n e f

-- the place is one of the list or the end of it, the steps in front of it are defined, and the next one is refused
pub record IsReplayFault (s : Start) (es : List Event) (place : ℕ) (cause : StepFault) : Type 0 where
  pub within : place ≤ length es
  pub before : AreDefined (net_of s []) (take place es)
  pub refused : IsRefusedAt (steps (net_of s []) (take place es)) (slice_get es place) cause
