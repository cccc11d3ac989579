use Rattle.zio_heal.proofs.HeldBlocks.{free_law, read_law}
use Rattle.zio_heal.proofs.TrueReads.{true_law}
use Rattle.zio_heal.proofs.laws.blocks_are_read_as_their_content.Goals as goal

pub returns : goal.returns
returns c = record { content = true_law; read = read_law; free = free_law }
