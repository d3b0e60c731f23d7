use Rattle.std.proofs.Common.{◌≡◌, ◌++◌, List, map, take, length}
use Rattle.std.specs.List.{flat_map}
use Rattle.ic_cause.specs.Journals.{journal_head, journal_line}
use Rattle.ic_roster.specs.Rosters.{Stander}
use Rattle.ic_set.specs.Placed.{noted, AreUnder}
use Rattle.ic_set.proofs.nets.journal_of.Given as goal

-- the first line, and those of the events so far
abbrev pub invariant-loop-standing : goal.invariant-loop-standing
invariant-loop-standing l =
    (xs : List Stander) × AreUnder l.roster.events (take l.standing-index l.placed) xs × (l.text.items ≡ journal_head (length l.placed) ++ flat_map journal_line (map noted xs))
