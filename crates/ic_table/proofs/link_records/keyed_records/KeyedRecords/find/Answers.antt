use Rattle.std.proofs.Common.{arith, ap, ◌∙◌}
use Rattle.ic_table.specs.KeyedRows.{keyed_row}
use Rattle.ic_table.proofs.Present.{present-inside}
use Rattle.ic_table.proofs.link_records.keyed_records.KeyedRecords.find.Goals as goal

pub returns-clause-none : goal.returns-clause-none
returns-clause-none c slot row h same =
    let there = ap (λ rows. keyed_row rows slot) c.self.view_is ∙ h in
    let few = c.self.invariant slot row there in
    let inside = present-inside c.self.inside.rows.slots slot row there in
    let slots = c.capacity.ensures.slots in
    let min = c.min-key-end.ensures in
    let test = c.loop-key-test.false in
    c.loop-key.invariant slot (omega (arith, few, inside, slots, min, test)) row h same
