use Rattle.std.proofs.Common.{◌≡◌, ℕ, ◌<◌, ◌≤◌, Some, length, get_or}
use Rattle.std.specs.Prelude.{slice_get}
use Rattle.ic_slots.specs.Slots.{slot_of}
use Rattle.ic_net.specs.declared.sheet.placed.PlacedAgent.{PlacedAgent}
use Rattle.ic_text.proofs.print.agent_lines.LinesByName.of.Given as goal

abbrev pub invariant-loop-agent : goal.invariant-loop-agent
invariant-loop-agent l = (k : ℕ) (d : PlacedAgent) → k < l.agent-index → (get_or l.lists.agents.now k d).name.place ≤ l.greatest

abbrev pub invariant-loop-line : goal.invariant-loop-line
invariant-loop-line l = record {
  room : l.greatest < length l.slots;
  lines : (k : ℕ) (a : PlacedAgent) → k < l.line → slice_get l.lists.agents.now k ≡ Some a → slot_of l.slots a.name.place ≡ Some k;
}
