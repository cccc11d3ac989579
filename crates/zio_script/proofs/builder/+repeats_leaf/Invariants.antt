use Rattle.std.proofs.Common.{length}
use Rattle.zio_script.proofs.builder.+repeats_leaf.Given as goal

-- one leaf fewer each time
abbrev pub decreases-repeats_leaf : goal.decreases-repeats_leaf
decreases-repeats_leaf l = length l.leaves.now
