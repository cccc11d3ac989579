use Rattle.std.proofs.Common.{length}
use Rattle.zio_command.proofs.tops.+least_sectors.Given as goal

abbrev pub decreases-least_sectors : goal.decreases-least_sectors
decreases-least_sectors l = length l.leaves.now
