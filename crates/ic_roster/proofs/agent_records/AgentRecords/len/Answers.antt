use Rattle.std.proofs.Common.{List, sym, ◌∙◌, ap, length}
use Rattle.ic_roster.specs.declared.agent_records.PlacedAgent.{PlacedAgent}
use Rattle.ic_roster.specs.AgentSlots.{agent_at}
use Rattle.ic_roster.proofs.Slots.{length-shown}
use Rattle.ic_roster.proofs.agent_records.AgentRecords.len.Goals as goal

pub returns : goal.returns
returns c = c.len.ensures ∙ sym (length-shown agent_at c.self.inside.records.slots) ∙ ap (λ (xs : List PlacedAgent). length xs) c.self.view_is
