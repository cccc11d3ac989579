use Rattle.std.proofs.Common.{◌+◌, ◌≤◌, length, vec_capacity}
use Rattle.zio_disks.specs.Whole.{IsWholeTree}
use Rattle.zio_course.specs.Runners.{joined_trees}
use Rattle.zio_plain.proofs.PostLemmas.{AreJoined}
use Rattle.zio_plain.proofs.tree.joined.Given as goal

abbrev pub invariant-loop-tree : goal.invariant-loop-tree
invariant-loop-tree l = record {
  joined : AreJoined IsWholeTree l.fn.trees l.tree-iterator l.all.items;
  room : length (joined_trees l.fn.trees) + 1 ≤ vec_capacity l.all;
}
