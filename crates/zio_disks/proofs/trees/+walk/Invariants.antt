use Rattle.std.proofs.Common.{◌+◌, ◌*◌, length}
use Rattle.zio_disks.proofs.trees.+walk.Given as goal

abbrev pub decreases-walk_pointer : goal.decreases-walk_pointer
decreases-walk_pointer g l = 5 * l.levels

abbrev pub decreases-walk_members : goal.decreases-walk_members
decreases-walk_members g l = 5 * l.levels + 1 + length l.members.now
