use Rattle.std.proofs.Common.{◌+◌, ◌*◌, length}
use Rattle.zio_blocks.proofs.parts.+parts.Given as goal

abbrev pub decreases-place_part : goal.decreases-place_part
decreases-place_part g l = 8 * l.levels

abbrev pub decreases-place_gang : goal.decreases-place_gang
decreases-place_gang g l = 8 * l.levels + 6

abbrev pub decreases-write_gang : goal.decreases-write_gang
decreases-write_gang g l = 8 * l.levels + 5

abbrev pub decreases-place_members : goal.decreases-place_members
decreases-place_members g l = 8 * l.levels + 1 + length l.sizes.now
