use Rattle.ic_test_text.specs.Stores.{AreSame}
use Rattle.ic_test_text.proofs.table.side_by_side.always_agree.Given as goal

abbrev pub invariant-loop-links : goal.invariant-loop-links
invariant-loop-links l = AreSame l.both.table.links l.both.rows l.both.ids.items

abbrev pub invariant-loop-added : goal.invariant-loop-added
invariant-loop-added l = AreSame l.both.table.links l.both.rows l.both.ids.items
