use Rattle.std.proofs.Common.{◌<◌, ◌-◌}
use Rattle.zio_turns.proofs.SumLemmas.{Finding}
use Rattle.zio_turns.proofs.sums.place_of.Given as goal

abbrev pub invariant-loop-node : goal.invariant-loop-node
invariant-loop-node l = record { root : 0 < l.node; finding : Finding l.nodes l.k l.left l.node }

abbrev pub decreases-loop-node : goal.decreases-loop-node
decreases-loop-node l = l.first - l.node
