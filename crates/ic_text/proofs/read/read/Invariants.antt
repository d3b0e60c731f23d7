use Rattle.std.proofs.Common.{◌≡◌, ◌+◌, ◌≤◌, length}
use Rattle.ic_text.specs.declared.grammar.limits.TheConstants.{MAX_TEXT}
use Rattle.ic_text.specs.Tokens.{items, between}
use Rattle.ic_text.specs.Reading.{run, initial, IsWithin}
use Rattle.ic_text.specs.Views.{left, state_of}
use Rattle.ic_text.proofs.read.read.Given as goal

abbrev pub invariant-loop-at : goal.invariant-loop-at
invariant-loop-at l = record {
  so_far : run (state_of l.builder) (left l.lexer) ≡ run initial (items between 0 l.text);
  room : l.lexer.at + length l.lexer.rest.now ≡ length l.text;
  within : IsWithin (state_of l.builder) l.lexer.at;
  short : length l.text ≤ MAX_TEXT;
}

abbrev pub decreases-loop-at : goal.decreases-loop-at
decreases-loop-at l = length l.lexer.rest.now
