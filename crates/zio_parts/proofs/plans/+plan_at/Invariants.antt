use Rattle.std.proofs.Common.{length}
use Rattle.zio_parts.proofs.plans.+plan_at.Given as goal

abbrev pub decreases-plan_at : goal.decreases-plan_at
decreases-plan_at l = length l.places.now
