use Rattle.std.proofs.Common.{length}
use Rattle.zio_command.proofs.tops.+missing_of.Given as goal

abbrev pub decreases-missing_of : goal.decreases-missing_of
decreases-missing_of l = length l.leaves.now
