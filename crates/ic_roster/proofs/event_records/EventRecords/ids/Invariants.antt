use Rattle.std.proofs.Common.{◌≡◌, ◌++◌, map}
use Rattle.ic_roster.proofs.EventFacts.{id_at}
use Rattle.ic_roster.proofs.Entries.{AreHeld}
use Rattle.ic_roster.proofs.event_records.EventRecords.ids.Given as goal

-- the ids so far and those of the entries that are left are all ids
abbrev pub invariant-loop-event : goal.invariant-loop-event
invariant-loop-event l =
    (l.ids.items ++ map id_at l.event-iterator ≡ map id_at l.initial.event-iterator) ×
    AreHeld l.self-inside.records.slots l.event-iterator
