use Rattle.std.proofs.Common.{◌≡◌, ◌-◌, ◌≤◌, length}
use Rattle.ic_name.specs.Names.{Name, depth}
use Rattle.ic_names.specs.Keys.{IsProper}
use Rattle.ic_names.specs.Blocks.{block_of}
use Rattle.ic_names.proofs.PutDigits.{ArePut}
use Rattle.ic_names.proofs.block.Block.put_digits.Given as goal

abbrev pub invariant-loop-at : goal.invariant-loop-at
invariant-loop-at l = record {
  low : l.first ≤ l.at;
  high : l.at ≤ l.fn.depth;
  same_length : length l.digits ≡ length l.fn.digits;
  put : (n : Name) → IsProper n → l.fn.depth ≡ depth n → l.fn.self.0 ≡ block_of n → ArePut n l.first l.at l.fn.depth l.number l.digits l.fn.digits;
}

abbrev pub decreases-loop-at : goal.decreases-loop-at
decreases-loop-at l = l.at - l.first
