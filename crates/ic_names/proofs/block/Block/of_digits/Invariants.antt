use Rattle.std.proofs.Common.{◌≡◌, take}
use Rattle.ic_names.specs.Blocks.{number_of}
use Rattle.ic_names.proofs.block.Block.of_digits.Given as goal

abbrev pub invariant-loop-digit : goal.invariant-loop-digit
invariant-loop-digit l = l.number ≡ number_of (take l.digit-index l.digits)
