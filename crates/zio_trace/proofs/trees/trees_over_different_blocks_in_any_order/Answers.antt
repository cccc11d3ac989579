use Rattle.zio_trace.proofs.SeparateLemmas.{separate_trees_in_any_order}
use Rattle.zio_trace.proofs.trees.trees_over_different_blocks_in_any_order.Goals as goal

pub returns : goal.returns
returns c = separate_trees_in_any_order
