use Rattle.std.proofs.Common.{length}
use Rattle.zio_disks.proofs.read.+read_pass.Given as goal

abbrev pub decreases-read_pass : goal.decreases-read_pass
decreases-read_pass g l = length l.places.now
