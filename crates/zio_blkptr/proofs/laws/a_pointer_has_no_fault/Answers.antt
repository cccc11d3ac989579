use Rattle.zio_blkptr.proofs.FaultLemmas.{no_fault_law}
use Rattle.zio_blkptr.proofs.laws.a_pointer_has_no_fault.Goals as goal

pub returns : goal.returns
returns c = no_fault_law
