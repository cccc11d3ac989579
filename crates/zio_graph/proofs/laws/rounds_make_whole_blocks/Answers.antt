use Rattle.zio_graph.proofs.WholeBlocks.{sound_whole}
use Rattle.zio_graph.proofs.laws.rounds_make_whole_blocks.Goals as goal

pub returns : goal.returns
returns c = λ journal t f ds values have lawful sound answered. (sound_whole journal t f ds values have lawful sound answered).0
