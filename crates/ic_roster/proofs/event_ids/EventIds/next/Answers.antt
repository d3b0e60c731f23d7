use Rattle.std.specs.Prelude.{IsSome}
use Rattle.std.proofs.lemmas.List.Elements.{All-rest}
use Rattle.ic_roster.specs.Slots.{slot_at}
use Rattle.ic_roster.proofs.event_ids.EventIds.next.Goals as goal

pub invariant_of-self : goal.invariant_of-self
invariant_of-self c = All-rest (λ k. IsSome (slot_at c.self.inside.records.now.slots k)) _ _ c.self.inside.slots.now c.in_ok-slot.ensures.cases.0 c.self.invariant
