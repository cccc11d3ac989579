use Rattle.zio_heal.proofs.WrittenLemmas.{any_law, made_law}
use Rattle.zio_heal.proofs.laws.pieces_written_have_a_copy_in_each_place.Goals as goal

pub returns : goal.returns
returns c = record { each = made_law; any = any_law }
