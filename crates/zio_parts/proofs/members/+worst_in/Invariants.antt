use Rattle.std.proofs.Common.{length}
use Rattle.zio_parts.proofs.members.+worst_in.Given as goal

abbrev pub decreases-worst_in : goal.decreases-worst_in
decreases-worst_in l = length l.members.now
