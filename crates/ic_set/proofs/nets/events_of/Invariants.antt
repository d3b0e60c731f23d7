use Rattle.std.proofs.Common.{◌≡◌, List, map, take}
use Rattle.ic_roster.specs.Rosters.{Stander}
use Rattle.ic_set.specs.Placed.{AreUnder}
use Rattle.ic_set.proofs.nets.events_of.Given as goal

-- the events so far
abbrev pub invariant-loop-standing : goal.invariant-loop-standing
invariant-loop-standing l = (xs : List Stander) × AreUnder l.roster.events (take l.standing-index l.placed) xs × (l.events.items ≡ map (λ x. x.event) xs)
