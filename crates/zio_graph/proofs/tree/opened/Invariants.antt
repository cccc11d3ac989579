use Rattle.std.proofs.Common.{vec_capacity}
use Rattle.zio_graph.proofs.TreeLemmas.{AreOpening}
use Rattle.zio_graph.proofs.tree.opened.Given as goal

abbrev pub invariant-loop-tree : goal.invariant-loop-tree
invariant-loop-tree l = AreOpening l.fn.trees.items l.trees.items l.wholes.items (vec_capacity l.wholes) (vec_capacity l.trees)

abbrev pub decreases-loop-tree : goal.decreases-loop-tree
decreases-loop-tree l = goal.left-loop-tree l
