use Rattle.std.proofs.Common.{◌+◌, ◌^◌, ◌<◌, ◌≤◌, length}
use Rattle.ic_names.specs.Tables.{StandsAt, GrowsUpTo}
use Rattle.ic_names.proofs.Fronted.{front_name}
use Rattle.ic_names.proofs.rows.Rows.enter.Given as goal

abbrev pub invariant-loop-digit : goal.invariant-loop-digit
invariant-loop-digit l = record {
  stands : StandsAt l.self.names (front_name l.name l.digit-index) l.place;
  grown : GrowsUpTo l.fn.self.names l.name l.self.names;
  room : length l.name.digits ≤ l.self.room + l.digit-index;
  few : length l.self.names + length l.name.digits < 2 ^ 32 + l.digit-index;
}
