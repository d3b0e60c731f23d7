use Rattle.std.proofs.Common.{◌≡◌, ◌<◌, ◌≤◌, ◌*◌, ◌++◌, drop, length}
use Rattle.ic_name.specs.Names.{depth}
use Rattle.ic_name.specs.NameTexts.{digits_text}
use Rattle.ic_names.specs.DigitTexts.{HasDots}
use Rattle.ic_names.specs.Tables.{name_at}
use Rattle.ic_names.proofs.rows.Rows.write_digits.Given as goal

abbrev pub invariant-loop-behind : goal.invariant-loop-behind
invariant-loop-behind l = record {
  inside : l.at < length l.self.names;
  behind : l.behind ≡ depth (name_at l.self.names l.at);
  low : 2 * l.behind ≤ length l.text;
  dots : HasDots l.text;
  written : digits_text (name_at l.self.names l.at).digits ++ drop (2 * l.behind) l.text ≡ digits_text (name_at l.self.names l.place).digits;
}

abbrev pub decreases-loop-behind : goal.decreases-loop-behind
decreases-loop-behind l = l.behind
