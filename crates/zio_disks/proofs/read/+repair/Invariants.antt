use Rattle.std.proofs.Common.{length}
use Rattle.zio_disks.proofs.read.+repair.Given as goal

abbrev pub decreases-repair : goal.decreases-repair
decreases-repair g l = length l.places.now
