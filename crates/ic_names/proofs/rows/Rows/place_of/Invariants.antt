use Rattle.ic_names.specs.Tables.{StandsAt}
use Rattle.ic_names.proofs.Fronted.{front_name}
use Rattle.ic_names.proofs.rows.Rows.place_of.Given as goal

abbrev pub invariant-loop-digit : goal.invariant-loop-digit
invariant-loop-digit l = StandsAt l.self.names (front_name (record { start = l.start; digits = l.digits }) l.digit-index) l.place
