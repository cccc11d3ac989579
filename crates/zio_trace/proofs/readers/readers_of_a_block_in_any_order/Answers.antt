use Rattle.zio_trace.proofs.ReadersTogether.{readers_together}
use Rattle.zio_trace.proofs.readers.readers_of_a_block_in_any_order.Goals as goal

pub returns : goal.returns
returns c = readers_together
