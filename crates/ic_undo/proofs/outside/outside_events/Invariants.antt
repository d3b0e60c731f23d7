use Rattle.std.proofs.Common.{take}
use Rattle.ic_set.specs.Orders.{AreInOrder, IsAny}
use Rattle.ic_journal.specs.Views.{set_of}
use Rattle.ic_undo.specs.GoingBack.{IsOutside}
use Rattle.ic_undo.proofs.ChosenOrders.{ChosenIds}
use Rattle.ic_undo.proofs.outside.outside_events.Given as goal

-- those of the first events in order that aren't in the mark are found
abbrev pub invariant-loop-event : goal.invariant-loop-event
invariant-loop-event g l = (h : AreInOrder (set_of l.bench) IsAny l.event-items) → ChosenIds (IsOutside l.mark) (take l.event-index h.order) l.ids.items
