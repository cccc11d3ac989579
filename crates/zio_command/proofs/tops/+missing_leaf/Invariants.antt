use Rattle.std.proofs.Common.{length}
use Rattle.zio_command.proofs.tops.+missing_leaf.Given as goal

abbrev pub decreases-missing_leaf : goal.decreases-missing_leaf
decreases-missing_leaf l = length l.lines.now
