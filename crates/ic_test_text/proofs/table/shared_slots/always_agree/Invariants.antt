use Rattle.ic_test_text.specs.Stores.{AreSame}
use Rattle.ic_test_text.proofs.table.shared_slots.always_agree.Given as goal

abbrev pub invariant-loop-links : goal.invariant-loop-links
invariant-loop-links l = AreSame l.both.table.links l.both.rows l.both.ids.items

abbrev pub invariant-loop-joined : goal.invariant-loop-joined
invariant-loop-joined l = AreSame l.both.table.links l.both.rows l.both.ids.items
