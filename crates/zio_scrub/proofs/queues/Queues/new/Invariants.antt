use Rattle.std.proofs.Common.{◌≡◌}
use Rattle.std.specs.Prelude.{replicate}
use Rattle.zio_scrub.specs.Queues.{no_waits}
use Rattle.zio_scrub.proofs.queues.Queues.new.Given as goal

abbrev pub invariant-loop-leaf : goal.invariant-loop-leaf
invariant-loop-leaf l = l.leaves.items ≡ replicate l._leaf no_waits
