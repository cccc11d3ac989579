use Rattle.std.proofs.Common.{◌≡◌, ◌++◌, ◌∷◌, [], ◌≤◌, reverse}
use Rattle.std.specs.Map.{values_of}
use Rattle.zio_vqueue.specs.Groups.{IsRun, gap_max}
use Rattle.zio_vqueue.specs.Spots.{AllFit, IsLowOf, below_spot}
use Rattle.zio_vqueue.proofs.gather.gather_below.Given as goal

-- what was found ends the entries below, and is a run with the first
abbrev pub invariant-loop-spot : goal.invariant-loop-spot
invariant-loop-spot l = record {
  parts : below_spot l.fn.from l.spots.entries ≡ l.spot-iterator.iter ++ reverse l.found.items;
  fit : AllFit l.spot-iterator.iter;
  low : IsLowOf l.low (values_of (reverse l.found.items)) l.first;
  under : l.low ≤ l.first.at;
  run : IsRun (gap_max l.first.write) (values_of (reverse l.found.items) ++ l.first ∷ []);
}
