use Rattle.std.proofs.Common.{length}
use Rattle.zio_audit.proofs.auditing.+add_disks.Given as goal

abbrev pub decreases-add_disks : goal.decreases-add_disks
decreases-add_disks l = length l.images
