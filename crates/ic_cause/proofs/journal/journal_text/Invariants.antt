use Rattle.std.proofs.Common.{◌≡◌, ◌++◌, map, take, length}
use Rattle.std.specs.List.{flat_map}
use Rattle.ic_cause.specs.Journals.{journal_head, journal_line}
use Rattle.ic_cause.proofs.journal.journal_text.Given as goal

abbrev pub invariant-loop-ranked : goal.invariant-loop-ranked
invariant-loop-ranked l =
    l.text.items ≡ journal_head (length l.events) ++ flat_map journal_line (map (λ x. record { event = x.event; rank = x.rank }) (take l.ranked-index l.events))
