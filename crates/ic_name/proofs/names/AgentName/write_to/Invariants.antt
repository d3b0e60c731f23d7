use Rattle.std.proofs.Common.{◌≡◌, ◌+◌, ◌*◌, ◌-◌, ◌≤◌, ◌++◌, take, length, vec_len, vec_capacity}
use Rattle.std.specs.Fmt.{decimal}
use Rattle.ic_name.specs.NameTexts.{digits_text}
use Rattle.ic_name.proofs.names.AgentName.write_to.Given as goal

abbrev pub invariant-loop-digit : goal.invariant-loop-digit
invariant-loop-digit l = record {
  written : l.out.items ≡ l.fn.out.items ++ decimal l.self.start ++ digits_text (take l.digit-index l.digits);
  room : vec_len l.out + 2 * (length l.digits - l.digit-index) ≤ vec_capacity l.out;
}
