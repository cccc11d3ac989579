use Rattle.std.specs.Map.{values_of}
use Rattle.zio_vqueue.specs.Spots.{timed_of}
use Rattle.zio_vqueue.proofs.TimedLemmas.{AreTimed}
use Rattle.zio_vqueue.proofs.index.timed_anew.Given as goal

abbrev pub invariant-loop-op : goal.invariant-loop-op
invariant-loop-op l = AreTimed (values_of l.fn.queued.entries) (timed_of l.spots.entries) l.spots.entries l.next l.op-iterator
