use Rattle.std.proofs.Common.{vec_capacity}
use Rattle.zio_graph.proofs.Wrapped.{ArePuttingBack}
use Rattle.zio_graph.proofs.tree.closed.Given as goal

abbrev pub invariant-loop-whole : goal.invariant-loop-whole
invariant-loop-whole l = ArePuttingBack l.fn.wholes l.whole-iterator l.room.items (vec_capacity l.room)
