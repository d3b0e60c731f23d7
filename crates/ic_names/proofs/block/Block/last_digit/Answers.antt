use Rattle.std.proofs.Common.{◌∙◌, ap}
use Rattle.ic_names.specs.Blocks.{last_of}
use Rattle.ic_names.proofs.Blocks.{block-child_last}
use Rattle.ic_names.proofs.block.Block.last_digit.Goals as goal

pub returns-clause-child : goal.returns-clause-child
returns-clause-child c n d small block = ap last_of block ∙ block-child_last n d small
