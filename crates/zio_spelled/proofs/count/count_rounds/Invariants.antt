use Rattle.std.proofs.Common.{length}
use Rattle.zio_spelled.specs.Rounds.{lines_of_rounds, rounds_left}
use Rattle.zio_spelled.proofs.CountLemmas.{IsCounted}
use Rattle.zio_spelled.proofs.count.count_rounds.Given as goal

abbrev pub invariant-loop-count : goal.invariant-loop-count
invariant-loop-count l = IsCounted l.tops (lines_of_rounds l.text) l.count (rounds_left l.rounds)

abbrev pub decreases-loop-count : goal.decreases-loop-count
decreases-loop-count l = length (rounds_left l.rounds)
