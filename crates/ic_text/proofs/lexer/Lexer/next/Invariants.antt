use Rattle.std.proofs.Common.{◌≡◌, ◌+◌, ◌≤◌, length}
use Rattle.ic_text.specs.Views.{left}
use Rattle.ic_text.proofs.lexer.Lexer.next.Given as goal

abbrev pub invariant-loop-byte : goal.invariant-loop-byte
invariant-loop-byte l = (left l.self ≡ left l.initial.self) × (l.self.at + length l.self.rest.now ≡ l.initial.self.at + length l.initial.self.rest.now) × (l.initial.self.at ≤ l.self.at)

abbrev pub decreases-loop-byte : goal.decreases-loop-byte
decreases-loop-byte l = length l.self.rest.now
