use Rattle.zio_scrub.proofs.PoolBlocks.{pool_scrub}
use Rattle.zio_scrub.proofs.laws.blocks_of_a_pool_can_be_scrubbed.Goals as goal

pub returns : goal.returns
returns c = pool_scrub
