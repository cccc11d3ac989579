use Rattle.zio_vqueue.specs.Groups.{gap_max}
use Rattle.zio_vqueue.specs.Spots.{AllFit, IsRising, above_spot}
use Rattle.zio_vqueue.proofs.gather.gather_above.Given as goal

-- the members so far are a run from the lowest to the highest
abbrev pub invariant-loop-spot : goal.invariant-loop-spot
invariant-loop-spot l =
    (goal.iterator-loop-spot).can_next l.spot-iterator ×
    (goal.iterator-loop-spot).is_finite l.spot-iterator ×
    record {
      begun : IsRising (gap_max l.first.write) l.low l.high (l.initial.members.items) (above_spot l.fn.from l.spots.entries) l.members.items l.spot-iterator;
      fit : AllFit l.spot-iterator;
    }
