use Rattle.std.proofs.Common.{◌≡◌, take}
use Rattle.zio_course.proofs.bound.copy_of.Given as goal

abbrev pub invariant-loop-head : goal.invariant-loop-head
invariant-loop-head l = l.heads ≡ take l.head-index l.tree.heads
