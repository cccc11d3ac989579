use Rattle.std.proofs.Common.{◌-◌, length}
use Rattle.zio_spelled.proofs.take.+steps_onto.Given as goal

abbrev pub decreases-steps_onto : goal.decreases-steps_onto
decreases-steps_onto l = 8 - length l.path
