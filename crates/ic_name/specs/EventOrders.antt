-- The order of events by their ids.
use Rattle.std.specs.declared.cmp.Ordering.{Ordering}
use Rattle.std.specs.Ordering.{ordering_then, nat_cmp}
use Rattle.ic_name.specs.declared.ids.EventId.{EventId}

-- by slot, then by line
abbrev pub event_cmp : EventId → EventId → Ordering
event_cmp a b = ordering_then (nat_cmp a.slot b.slot) (nat_cmp a.line b.line)
