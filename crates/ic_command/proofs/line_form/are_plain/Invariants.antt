use Rattle.std.proofs.Common.{length, take, ◌-◌, ◌≤◌, ◌≡◌, true}
use Rattle.std.specs.List.{list_all}
use Rattle.ic_command.specs.Commands.{is_plain}
use Rattle.ic_command.proofs.line_form.are_plain.Given as goal

abbrev pub invariant-loop-at : goal.invariant-loop-at
invariant-loop-at l = record { within : l.at ≤ length l.body; plain : list_all is_plain (take l.at l.body) ≡ true }

abbrev pub decreases-loop-at : goal.decreases-loop-at
decreases-loop-at l = length l.body - l.at

abbrev pub invariant-loop-at-2 : goal.invariant-loop-at-2
invariant-loop-at-2 l = record { on : l.initial.at ≤ l.at; within : l.at ≤ length l.body; plain : list_all is_plain (take l.at l.body) ≡ true }

abbrev pub decreases-loop-at-2 : goal.decreases-loop-at-2
decreases-loop-at-2 l = length l.body - l.at
