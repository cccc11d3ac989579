use Rattle.zio_nodes.proofs.LeavesOut.{few_out}
use Rattle.zio_nodes.proofs.laws.a_copy_has_one_operation_out.Goals as goal

pub returns : goal.returns
returns c = λ tops node over. few_out tops node over
