use Rattle.std.proofs.Common.{◌≡◌, take}
use Rattle.ic_link.specs.Links.{makers_of}
use Rattle.ic_test_text.proofs.table.side_by_side.makers.Given as goal

abbrev pub invariant-loop-id : goal.invariant-loop-id
invariant-loop-id l = l.events.items ≡ makers_of (take l.id-index l.ids)
