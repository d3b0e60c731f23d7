-- The test of a line without a carriage return at its end.
use Rattle.std.proofs.Common.{◌≡◌, ℕ, Bool, true, false, List, sym, ap, ◌∙◌}
use Rattle.std.specs.Io.BufRead.{strip_last}
use Rattle.ic_command.specs.Commands.{is_well_formed}

-- the test of the body is one of the line without its end
pub body_test : (line body : List ℕ) (r b : Bool) → body ≡ strip_last 13 line → r ≡ is_well_formed body → r ≡ b → is_well_formed (strip_last 13 line) ≡ b
body_test line body r b e test is = ap is_well_formed (sym e) ∙ sym test ∙ is

-- no test has both outcomes
pub apart : ◌≡◌ {A = Bool} true false → ⊥
apart e = cc
