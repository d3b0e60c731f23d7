use Rattle.std.proofs.Common.{◌≡◌, All, map, take}
use Rattle.ic_set.specs.Placed.{IsPlaced}
use Rattle.ic_set.proofs.bare.BareSet.placed.Given as goal

-- the events under the ids so far are shown
abbrev pub invariant-loop-id : goal.invariant-loop-id
invariant-loop-id g l = record {
  under : map (λ p. p.id) l.placed.items ≡ take l.id-index l.ids;
  shown : All (IsPlaced l.self) l.placed.items;
}
