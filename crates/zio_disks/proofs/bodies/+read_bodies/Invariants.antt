use Rattle.std.proofs.Common.{length}
use Rattle.zio_disks.proofs.bodies.+read_bodies.Given as goal

abbrev pub decreases-read_bodies : goal.decreases-read_bodies
decreases-read_bodies g l = length l.bodies.now
