-- What settling says.
use Rattle.std.specs.Prelude.{◌≡◌, ◌≢◌, ℕ, ◌+◌, ◌<◌, ◌++◌, List, length, drop, slice_get}
use Rattle.ic_journal.specs.Views.{BenchView}
use Rattle.ic_shared.specs.Passes.{PassView, added_by_all, columns}
use Rattle.ic_shared.specs.Openings.{OpeningView}
use Rattle.ic_shared.specs.Settles.{Settles, WrongAt}

-- the history is the opening's lines and then as many lines, each told by one receipt
pub record Agrees (opening : OpeningView) (passes : List PassView) (bench : BenchView) (lines : ℕ) : Type 0 where
  pub every_pass : length passes ≡ opening.passes
  pub start : bench.start ≡ opening.start
  pub opened : bench.lines ≡ opening.lines ++ drop (length opening.lines) bench.lines
  pub added : length bench.lines ≡ length opening.lines + lines
  pub counted : lines ≡ added_by_all passes
  pub settled : Settles (length opening.lines) (drop (length opening.lines) bench.lines) (columns bench.names passes)

-- what is false at the number
pub data IsFalseAt (opening : OpeningView) (passes : List PassView) (bench : BenchView) (number : ℕ) : Type 0 where
  -- at the history's length: the start is another
  other_start : number ≡ length bench.lines → bench.start ≢ opening.start → IsFalseAt opening passes bench number
  -- where the start is the same: a line of the opening isn't the history's
  other_line : bench.start ≡ opening.start → number < length opening.lines → slice_get bench.lines number ≢ slice_get opening.lines number
      → IsFalseAt opening passes bench number
  -- there, too: what the passes say of the lines since the opening
  other_receipts : bench.start ≡ opening.start
      → WrongAt (length opening.lines) bench.lines (columns bench.names passes) number → IsFalseAt opening passes bench number
