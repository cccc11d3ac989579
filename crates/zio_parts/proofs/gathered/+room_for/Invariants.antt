use Rattle.std.proofs.Common.{length}
use Rattle.zio_parts.proofs.gathered.+room_for.Given as goal

abbrev pub decreases-room_for : goal.decreases-room_for
decreases-room_for l = length l.members.now
