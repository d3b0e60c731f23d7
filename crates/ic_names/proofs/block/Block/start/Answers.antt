use Rattle.ic_names.proofs.Blocks.{block-start}
use Rattle.ic_names.proofs.block.Block.start.Goals as goal

pub returns : goal.returns
returns c k = block-start k
