use Rattle.std.proofs.Common.{◌+◌, ◌*◌, length}
use Rattle.zio_scrub.proofs.blocks.+walk.Given as goal

abbrev pub decreases-walk_pointer : goal.decreases-walk_pointer
decreases-walk_pointer l = 5 * l.levels

abbrev pub decreases-walk_members : goal.decreases-walk_members
decreases-walk_members l = 5 * l.levels + 1 + length l.members.now
