use Rattle.std.proofs.Common.{◌≡◌, List, map, take}
use Rattle.ic_name.specs.Events.{Event}
use Rattle.ic_set.specs.declared.pairs.ActivePair.{ActivePair}
use Rattle.ic_set.proofs.LedPairs.{LedBy}
use Rattle.ic_set.proofs.bare.BareSet.active_among.Given as goal

-- the pairs that the names so far lead
abbrev pub invariant-loop-lead : goal.invariant-loop-lead
invariant-loop-lead g l = (xs : List (Event × ActivePair)) × LedBy l.self (take l.lead-index l.lead-items) xs × (map (λ (x : Event × ActivePair). x.1) xs ≡ l.pairs.items)
