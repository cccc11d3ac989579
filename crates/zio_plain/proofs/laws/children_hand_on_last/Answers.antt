use Rattle.zio_plain.proofs.ReturnLemmas.{returned_last}
use Rattle.zio_plain.proofs.laws.children_hand_on_last.Goals as goal

pub returns : goal.returns
returns c = returned_last
