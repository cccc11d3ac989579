use Rattle.zio_trace.proofs.LeafLemmas.{leaves_commute}
use Rattle.zio_trace.proofs.orders.leaf_operations_commute.Goals as goal

pub returns : goal.returns
returns c = leaves_commute
