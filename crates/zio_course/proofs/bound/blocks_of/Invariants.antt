use Rattle.std.proofs.Common.{◌≡◌, ◌++◌}
use Rattle.zio_course.specs.Names.{pairs_of}
use Rattle.zio_course.proofs.bound.blocks_of.Given as goal

abbrev pub invariant-loop-name : goal.invariant-loop-name
invariant-loop-name l = pairs_of l.blocks.items ++ l.name-iterator ≡ l.fn.trees.entries
