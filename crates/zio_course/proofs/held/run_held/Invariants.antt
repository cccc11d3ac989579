use Rattle.std.proofs.Common.{◌≡◌, ◌≤◌, ℕ, List, length}
use Rattle.zio_script.specs.declared.script.Request.{Request}
use Rattle.zio_course.specs.Course.{AreOfRounds}
use Rattle.zio_course.specs.Folds.{batches_seen, fold_seen}
use Rattle.zio_course.specs.Moves.{HeldRan, IsGoing}
use Rattle.zio_course.proofs.held.run_held.Given as goal

abbrev pub invariant-loop-alloc : goal.invariant-loop-alloc
invariant-loop-alloc g l = record {
  going : (later : List (List Request)) (spare : ℕ) → IsGoing g.R.Runner.fits (g.R.Runner.standing l.fn.runner) (g.J.Records.seen l.fn.journal).rounds (fold_seen g.R.Runner.pending l.fn.fold) (batches_seen l.fn.held.items) later spare
      → IsGoing g.R.Runner.fits (g.R.Runner.standing l.runner) (g.J.Records.seen l.journal).rounds (fold_seen g.R.Runner.pending l.fold) (batches_seen l.held.items) later spare;
  ran : HeldRan l.show l.failmode (g.R.Runner.standing l.fn.runner) (g.R.Runner.standing l.runner) (fold_seen g.R.Runner.pending l.fn.fold) (fold_seen g.R.Runner.pending l.fold)
      (batches_seen l.fn.held.items) (batches_seen l.held.items) (g.J.Records.seen l.fn.journal) (g.J.Records.seen l.journal) (g.R.Runner.tells l.fn.runner) (g.R.Runner.tells l.runner) (g.O.Sink.holds l.fn.out) (g.O.Sink.holds l.out);
  less : length l.held.items ≤ length l.fn.held.items;
  tops : (g.R.Runner.standing l.runner).tops ≡ (g.R.Runner.standing l.fn.runner).tops;
  rows : (g.R.Runner.standing l.runner).rows ≡ (g.R.Runner.standing l.fn.runner).rows;
  point : l.fold.point ≡ l.fn.fold.point;
  faults : (g.R.Runner.standing l.runner).faults ≡ (g.R.Runner.standing l.fn.runner).faults;
  quiet : g.O.Sink.faults l.out ≡ g.O.Sink.faults l.fn.out;
  can : g.R.Runner.Can l.runner;
  chosen : AreOfRounds g.R.Runner.chosen (g.J.Records.seen l.journal).rounds (g.J.Records.seen l.journal).places;
  same : g.R.Runner.same l.fn.runner l.runner;
}

abbrev pub decreases-loop-alloc : goal.decreases-loop-alloc
decreases-loop-alloc g l = length l.held.items
