use Rattle.zio_graph.proofs.Wrapped.{AreWrapped}
use Rattle.zio_graph.proofs.tree.trees_of.Given as goal

abbrev pub invariant-loop-whole : goal.invariant-loop-whole
invariant-loop-whole l = AreWrapped l.fn.wholes l.whole-iterator l.trees.items
