use Rattle.std.proofs.Common.{◌≡◌, take, Some}
use Rattle.ic_name.specs.declared.shapes.Place.TheVariants.{Front}
use Rattle.ic_name.proofs.NameReading.{run}
use Rattle.ic_name.proofs.shapes.Shape.of.Given as goal

abbrev pub invariant-loop-offset : goal.invariant-loop-offset
invariant-loop-offset l = run (Some Front) (take l.offset l.text) ≡ Some l.place
