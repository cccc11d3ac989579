use Rattle.std.proofs.Common.{length}
use Rattle.zio_stages.proofs.label.+steps_number.Given as goal

abbrev pub decreases-steps_number : goal.decreases-steps_number
decreases-steps_number l = length l.steps.now
