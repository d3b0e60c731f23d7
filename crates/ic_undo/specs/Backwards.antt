-- What undoing a list of events from its end answers.
use Rattle.std.specs.Prelude.{◌≡◌, ◌+◌, ◌<◌, List, length, map, reverse}
use Rattle.ic_name.specs.Events.{Pair, pair}
use Rattle.ic_name.specs.declared.ids.EventId.{EventId}
use Rattle.ic_name.specs.declared.limits.TheConstants.{MAX_LINES}
use Rattle.ic_roster.specs.Rosters.{Stander}
use Rattle.ic_journal.specs.Views.{BenchView}
use Rattle.ic_journal.specs.Calls.{Stays}
use Rattle.ic_undo.specs.declared.backwards.BackwardsFault.{BackwardsFault}
use Rattle.ic_undo.specs.declared.backwards.BackwardsFault.TheVariants.{HistoryFull, Memory}
use Rattle.ic_journal.specs.Undone.{AreUndone, AreFree}

-- the events under these ids were undone from the last one on, and these are their names in that order
abbrev pub AreUndoneBack : BenchView → List EventId → List Pair → BenchView → Type 0
AreUndoneBack old ids names new = (order : List Stander) → AreFree old order → map (λ x. x.id) order ≡ ids → AreUndone old (reverse order) new × (map (λ x. pair x.event) (reverse order) ≡ names)

-- why they aren't
abbrev pub ArentUndoneBack : BenchView → List EventId → BackwardsFault → BenchView → Type 0
ArentUndoneBack old ids HistoryFull new = (MAX_LINES < length old.lines + length ids) × (new ≡ old)
ArentUndoneBack old ids Memory new = Stays old new
