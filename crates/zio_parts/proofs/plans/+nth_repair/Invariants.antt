use Rattle.std.proofs.Common.{length}
use Rattle.zio_parts.proofs.plans.+nth_repair.Given as goal

abbrev pub decreases-nth_repair : goal.decreases-nth_repair
decreases-nth_repair l = length l.places.now
