use Rattle.zio_graph.proofs.ReadSizes.{reads_told, sectors_told}
use Rattle.zio_graph.proofs.laws.rounds_read_whole_blocks.Goals as goal

pub returns : goal.returns
returns c = record { reads = reads_told; sectors = sectors_told }
