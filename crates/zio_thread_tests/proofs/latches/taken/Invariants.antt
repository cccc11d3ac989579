use Rattle.std.proofs.Common.{length}
use Rattle.zio_latch.specs.Wakes.{pending}
use Rattle.zio_thread_tests.proofs.latches.taken.Given as goal

abbrev pub decreases-loop-number : goal.decreases-loop-number
decreases-loop-number l = length (pending l.arrived)
