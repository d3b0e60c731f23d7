use Rattle.std.proofs.Common.{refl}
use Rattle.ic_names.specs.Tables.{was}
use Rattle.ic_names.proofs.table.NameTable.enter_child.Goals as goal

pub returns-in-Some-clause-grown : goal.returns-in-Some-clause-grown
returns-in-Some-clause-grown c = rw (← c.self.view_is) (was _ c.in-Some.ensures refl)
