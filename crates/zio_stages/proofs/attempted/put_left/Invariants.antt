use Rattle.std.proofs.Common.{vec_capacity}
use Rattle.zio_stages.proofs.AgainLemmas.{LeftSoFar}
use Rattle.zio_stages.proofs.attempted.put_left.Given as goal

abbrev pub invariant-loop-child : goal.invariant-loop-child
invariant-loop-child l = LeftSoFar l.fn.again.items l.child-iterator l.left.items (vec_capacity l.left)
