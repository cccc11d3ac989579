use Rattle.std.proofs.Common.{◌+◌, List}
use Rattle.zio_gang.specs.Runs.{Batch as DefinedBatch}
use Rattle.zio_course.specs.Folds.{SeenFold, batches_seen, fold_seen}
use Rattle.zio_course.specs.Runners.{Standing}
use Rattle.zio_course.proofs.MoveLemmas.{all_held, by_same, err_step, going_raised, line_clear, line_clear_cut, line_waiting_cut, ok_step}
use Rattle.zio_course.proofs.clear.clear_line.Goals as goal

pub returns-in_err-run_waiting-clause-cut : goal.returns-in_err-run_waiting-clause-cut
returns-in_err-run_waiting-clause-cut g c =
    let f : SeenFold = fold_seen g.R.Runner.pending c.args.fold.now in
    let s : Standing = g.R.Runner.standing c.args.runner.now in
    let held : List DefinedBatch = batches_seen c.args.held.now.items in
    let orderly = all_held g.R.Runner.fits s (g.J.Records.seen c.args.journal.now).rounds f held c.requires.going.0 (c.requires.going.1 + 1) c.requires.going.2 in
    by_same c.from_residual.result c.in_err-run_waiting.field-0.0 _ c.from_residual.ensures.1
    (λ batch batches. line_waiting_cut c.args.show.now c.args.failmode s f held batch batches (g.J.Records.seen c.args.journal.now) (g.J.Records.seen c.run_waiting.new.journal) (g.R.Runner.tells c.args.runner.now) (g.R.Runner.tells c.run_waiting.new.runner)
    (g.O.Sink.holds c.args.out.now) (g.O.Sink.holds c.run_waiting.new.out) c.in_err-run_waiting.field-0.0 orderly c.in_err-run_waiting.ensures.cut)

pub run_held-requires-clause-going : goal.run_held-requires-clause-going
run_held-requires-clause-going g c =
    let f : SeenFold = fold_seen g.R.Runner.pending c.args.fold.now in
    let held : List DefinedBatch = batches_seen c.args.held.now.items in (
      c.requires.going.0,
      c.requires.going.1,
      c.in_ok-run_waiting.ensures.going held c.requires.going.0 c.requires.going.1
          (going_raised g.R.Runner.fits (g.R.Runner.standing c.args.runner.now) (g.J.Records.seen c.args.journal.now).rounds f held c.requires.going.0 (c.requires.going.1 + 1) (f.point + 1) c.requires.going.2),
    )

pub returns-clause-ran : goal.returns-clause-ran
returns-clause-ran g c =
    let f : SeenFold = fold_seen g.R.Runner.pending c.args.fold.now in
    let s : Standing = g.R.Runner.standing c.args.runner.now in
    let held : List DefinedBatch = batches_seen c.args.held.now.items in
    let orderly = all_held g.R.Runner.fits s (g.J.Records.seen c.args.journal.now).rounds f held c.requires.going.0 (c.requires.going.1 + 1) c.requires.going.2 in
    ok_step c.run_held.result _ _
    (λ step batch batches.
    line_clear c.args.show.now c.args.failmode s (g.R.Runner.standing c.run_waiting.new.runner) (g.R.Runner.standing c.run_held.new.runner) f (fold_seen g.R.Runner.pending c.run_waiting.new.fold) (fold_seen g.R.Runner.pending c.run_held.new.fold)
    held (batches_seen c.run_held.new.held.items) batch batches (g.J.Records.seen c.args.journal.now) (g.J.Records.seen c.run_waiting.new.journal) (g.J.Records.seen c.run_held.new.journal) (g.R.Runner.tells c.args.runner.now) (g.R.Runner.tells c.run_waiting.new.runner) (g.R.Runner.tells c.run_held.new.runner)
    (g.O.Sink.holds c.args.out.now) (g.O.Sink.holds c.run_waiting.new.out) (g.O.Sink.holds c.run_held.new.out) c.in_ok-run_waiting.ensures.rows orderly c.in_ok-run_waiting.ensures.ran step) c.run_held.ensures.ran

pub returns-clause-cut : goal.returns-clause-cut
returns-clause-cut g c =
    let f : SeenFold = fold_seen g.R.Runner.pending c.args.fold.now in
    let s : Standing = g.R.Runner.standing c.args.runner.now in
    let held : List DefinedBatch = batches_seen c.args.held.now.items in
    let orderly = all_held g.R.Runner.fits s (g.J.Records.seen c.args.journal.now).rounds f held c.requires.going.0 (c.requires.going.1 + 1) c.requires.going.2 in
    err_step c.run_held.result _ _
    (λ e step batch batches.
    line_clear_cut c.args.show.now c.args.failmode s (g.R.Runner.standing c.run_waiting.new.runner) f (fold_seen g.R.Runner.pending c.run_waiting.new.fold)
    held batch batches (g.J.Records.seen c.args.journal.now) (g.J.Records.seen c.run_waiting.new.journal) (g.J.Records.seen c.run_held.new.journal) (g.R.Runner.tells c.args.runner.now) (g.R.Runner.tells c.run_waiting.new.runner) (g.R.Runner.tells c.run_held.new.runner)
    (g.O.Sink.holds c.args.out.now) (g.O.Sink.holds c.run_waiting.new.out) (g.O.Sink.holds c.run_held.new.out) e c.in_ok-run_waiting.ensures.rows c.in_ok-run_waiting.ensures.tops orderly c.in_ok-run_waiting.ensures.ran step) c.run_held.ensures.cut

pub returns-clause-going : goal.returns-clause-going
returns-clause-going g c =
    let f : SeenFold = fold_seen g.R.Runner.pending c.args.fold.now in
    let held : List DefinedBatch = batches_seen c.args.held.now.items in
    ok_step c.run_held.result _ _
    (λ k later spare h. k later spare (c.in_ok-run_waiting.ensures.going held later spare
    (going_raised g.R.Runner.fits (g.R.Runner.standing c.args.runner.now) (g.J.Records.seen c.args.journal.now).rounds f held later (spare + 1) (f.point + 1) h))) c.run_held.ensures.going
