use Rattle.std.proofs.Common.{◌≡◌, ◌+◌, ◌-◌, ◌^◌, length, min, take}
use Rattle.zio_course.specs.Runners.{joined_trees}
use Rattle.zio_plain.proofs.tree.room_over.Given as goal

abbrev pub invariant-loop-tree : goal.invariant-loop-tree
invariant-loop-tree l = l.room ≡ min (length (joined_trees (take l.tree-index l.children)) + 1) (2 ^ 64 - 1)
