use Rattle.std.proofs.Common.{length}
use Rattle.zio_script.proofs.values.+add_leaves.Given as goal

-- one leaf fewer each time
abbrev pub decreases-add_leaves : goal.decreases-add_leaves
decreases-add_leaves l = length l.leaves.now
