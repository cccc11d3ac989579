use Rattle.std.proofs.Common.{length}
use Rattle.zio_stop_tests.proofs.durable.+lens_are.Given as goal

abbrev pub decreases-lens_are : goal.decreases-lens_are
decreases-lens_are l = length l.ranges.now
