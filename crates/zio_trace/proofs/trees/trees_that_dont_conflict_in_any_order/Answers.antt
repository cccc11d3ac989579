use Rattle.zio_trace.proofs.TreeOrderLemmas.{trees_in_any_order}
use Rattle.zio_trace.proofs.trees.trees_that_dont_conflict_in_any_order.Goals as goal

pub returns : goal.returns
returns c = trees_in_any_order
