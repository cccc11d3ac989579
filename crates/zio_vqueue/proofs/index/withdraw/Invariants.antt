use Rattle.std.proofs.Common.{◌≡◌, ℕ, drop}
use Rattle.std.specs.Map.{values_of}
use Rattle.zio_vqueue.specs.Queues.{AreApart, without}
use Rattle.zio_vqueue.specs.Spots.{AreBefore, AreCounted, AreThere, IsIndexed, ops_at, timed_of}
use Rattle.zio_vqueue.proofs.index.withdraw.Given as goal

-- the members that are left are still there, and the others are out
abbrev pub invariant-loop-spot : goal.invariant-loop-spot
invariant-loop-spot l = record {
  indexed : IsIndexed (timed_of l.spots.entries) l.spots.entries;
  counted : AreCounted l.waiting (ops_at l.spots.entries);
  there : AreThere (timed_of l.spots.entries) (drop l.spot-index l.members);
  apart : AreApart (values_of (drop l.spot-index l.members));
  queued : without (values_of (drop l.spot-index l.members)) (ops_at l.spots.entries) ≡ without (values_of l.members) (ops_at l.initial.spots.entries);
  before : (time : ℕ) → AreBefore time (timed_of l.initial.spots.entries) → AreBefore time (timed_of l.spots.entries);
}
