use Rattle.std.proofs.Common.{length}
use Rattle.zio_parts.proofs.copies.+nth_copy.Given as goal

abbrev pub decreases-nth_copy : goal.decreases-nth_copy
decreases-nth_copy l = length l.places.now
