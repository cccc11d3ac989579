use Rattle.std.proofs.Common.{◌-◌, slice_index}
use Rattle.zio_turns.specs.LineSums.{places_of}
use Rattle.zio_turns.proofs.ClimbLemmas.{Climbing}
use Rattle.zio_turns.proofs.sums.lower.Given as goal

abbrev pub invariant-loop-node : goal.invariant-loop-node
invariant-loop-node l = Climbing 0 1 (slice_index (places_of l.initial.nodes) l.place - 1) l.initial.nodes l.nodes l.place l.node

abbrev pub decreases-loop-node : goal.decreases-loop-node
decreases-loop-node l = l.node
