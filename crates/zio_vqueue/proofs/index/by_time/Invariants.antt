use Rattle.std.proofs.Common.{◌≡◌}
use Rattle.zio_vqueue.specs.Spots.{timed_of, timed_over}
use Rattle.zio_vqueue.proofs.index.by_time.Given as goal

-- once those that are left are put in, all are
abbrev pub invariant-loop-spot : goal.invariant-loop-spot
invariant-loop-spot l = timed_over l.spot-iterator l.ops.entries ≡ timed_of l.fn.spots.entries
