use Rattle.std.proofs.Common.{◌≡◌, ◌-◌, ◌≤◌, length}
use Rattle.ic_name.specs.Names.{Name, depth}
use Rattle.ic_names.specs.Keys.{IsProper}
use Rattle.ic_names.specs.Blocks.{block_of}
use Rattle.ic_names.specs.DigitTexts.{HasDots}
use Rattle.ic_names.proofs.WrittenDigits.{AreWritten}
use Rattle.ic_names.proofs.block.Block.write_digits.Given as goal

abbrev pub invariant-loop-at : goal.invariant-loop-at
invariant-loop-at l = record {
  low : l.first ≤ l.at;
  high : l.at ≤ l.fn.depth;
  same_length : length l.text ≡ length l.fn.text;
  dots : HasDots l.text;
  put : (n : Name) → IsProper n → l.fn.depth ≡ depth n → l.fn.self.0 ≡ block_of n → AreWritten n l.first l.at l.fn.depth l.number l.text l.fn.text;
}

abbrev pub decreases-loop-at : goal.decreases-loop-at
decreases-loop-at l = l.at - l.first
