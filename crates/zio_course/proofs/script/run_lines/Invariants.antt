use Rattle.std.proofs.Common.{◌≡◌, ◌++◌, ◌+◌, ◌<◌, ◌^◌, List, length, map}
use Rattle.zio_script.specs.declared.script.Item.{Item}
use Rattle.zio_script.specs.Accepted.{batches_from}
use Rattle.zio_script.specs.Requests.{requests_of}
use Rattle.zio_course.specs.Course.{AreOfRounds}
use Rattle.zio_course.specs.Folds.{batches_seen, fold_seen}
use Rattle.zio_course.specs.Moves.{HeldWaits, IsGoing, LinesRan, requests_held}
use Rattle.zio_course.proofs.script.run_lines.Given as goal

abbrev pub invariant-loop-fold : goal.invariant-loop-fold
invariant-loop-fold g l = (front : List Item) × record {
  whole : l.from ≡ front ++ l.rest;
  going : IsGoing g.R.Runner.fits (g.R.Runner.standing l.runner) (g.J.Records.seen l.journal).rounds (fold_seen g.R.Runner.pending l.fold) (batches_seen l.held.items) (batches_from (requests_of front) l.rest) (length l.rest);
  waits : HeldWaits l.failmode (map g.R.Runner.pending l.fold.suspended) (batches_seen l.held.items);
  ran : LinesRan l.show l.failmode (g.R.Runner.standing l.fn.runner) (g.R.Runner.standing l.runner) (fold_seen g.R.Runner.pending l.fn.fold) (fold_seen g.R.Runner.pending l.fold) l.items l.rest
      (record { held = batches_seen l.held.items; batch = requests_of front; batches = l.batches }) (requests_held (batches_seen l.held.items) ++ batches_from (requests_of front) l.rest)
      (g.J.Records.seen l.fn.journal) (g.J.Records.seen l.journal) (g.R.Runner.tells l.fn.runner) (g.R.Runner.tells l.runner) (g.O.Sink.holds l.fn.out) (g.O.Sink.holds l.out);
  point : l.fold.point + length l.rest < 2 ^ 32;
  batches_fit : l.batches + length l.rest < 2 ^ 32;
  tops : (g.R.Runner.standing l.runner).tops ≡ (g.R.Runner.standing l.fn.runner).tops;
  rows : (g.R.Runner.standing l.runner).rows ≡ (g.R.Runner.standing l.fn.runner).rows;
  faults : (g.R.Runner.standing l.runner).faults ≡ (g.R.Runner.standing l.fn.runner).faults;
  quiet : g.O.Sink.faults l.out ≡ g.O.Sink.faults l.fn.out;
  can : g.R.Runner.Can l.runner;
  chosen : AreOfRounds g.R.Runner.chosen (g.J.Records.seen l.journal).rounds (g.J.Records.seen l.journal).places;
  same : g.R.Runner.same l.fn.runner l.runner;
}

abbrev pub decreases-loop-fold : goal.decreases-loop-fold
decreases-loop-fold g l = length l.rest
