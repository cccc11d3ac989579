use Rattle.std.proofs.Common.{◌+◌, ◌*◌, length}
use Rattle.zio_disks.proofs.claim.+visit.Given as goal

abbrev pub decreases-visit_pointer : goal.decreases-visit_pointer
decreases-visit_pointer g l = 6 * l.levels

abbrev pub decreases-visit_gang : goal.decreases-visit_gang
decreases-visit_gang g l = 6 * l.levels + 5

abbrev pub decreases-visit_members : goal.decreases-visit_members
decreases-visit_members g l = 6 * l.levels + 1 + length l.members.now
