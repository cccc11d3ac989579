use Rattle.std.proofs.Common.{length}
use Rattle.zio_disks.proofs.write.+write_pass.Given as goal

abbrev pub decreases-write_pass : goal.decreases-write_pass
decreases-write_pass g l = length l.places.now
