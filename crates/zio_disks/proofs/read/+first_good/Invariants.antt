use Rattle.std.proofs.Common.{length}
use Rattle.zio_disks.proofs.read.+first_good.Given as goal

abbrev pub decreases-first_good : goal.decreases-first_good
decreases-first_good g l = length l.leaves.now
