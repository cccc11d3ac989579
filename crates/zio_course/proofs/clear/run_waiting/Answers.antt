use Rattle.std.proofs.Common.{◌≡◌, Bor, true, false, ap, ◌∙◌, arith}
use Rattle.zio_script.specs.declared.script.Request.{Request}
use Rattle.zio_gang.specs.Runs.{has_trees}
use Rattle.zio_course.specs.Folds.{SeenFold, fold_seen, has_items}
use Rattle.zio_course.specs.Runners.{Standing}
use Rattle.zio_course.proofs.MoveLemmas.{going_clear, going_less, not_empty, ok_step, err_step, waiting_cut, waiting_none, waiting_some}
use Rattle.zio_course.proofs.RoundsLemmas.{len_map, trees_items, when_ok}
use Rattle.zio_course.proofs.clear.run_waiting.Goals as goal

pub returns-then-is_empty-clause-ran : goal.returns-then-is_empty-clause-ran
returns-then-is_empty-clause-ran g c =
    let f : SeenFold = fold_seen g.R.Runner.pending c.args.fold.now in
    let none : has_trees f.suspended ≡ false = trees_items g.R.Runner.pending c.args.fold.now.suspended ∙ ap has_items (c.is_empty.ensures.0 c.if-is_empty.true) in
    waiting_none c.args.show.now c.args.failmode (g.R.Runner.standing c.args.runner.now) f (g.J.Records.seen c.args.journal.now) (g.R.Runner.tells c.args.runner.now) (g.O.Sink.holds c.args.out.now) none

pub returns-then-is_empty-clause-going : goal.returns-then-is_empty-clause-going
returns-then-is_empty-clause-going g c held later spare h = going_less _ _ _ _ held later spare h

pub returns-else-is_empty-clause-ran : goal.returns-else-is_empty-clause-ran
returns-else-is_empty-clause-ran g c =
    let f : SeenFold = fold_seen g.R.Runner.pending c.args.fold.now in
    let s : Standing = g.R.Runner.standing c.args.runner.now in
    let now : Standing = g.R.Runner.standing c.clear_round.new.runner in
    let some : has_trees f.suspended ≡ true = trees_items g.R.Runner.pending c.args.fold.now.suspended ∙ not_empty c.is_empty.result c.args.fold.now.suspended c.is_empty.ensures.1 c.if-is_empty.false in
    ok_step c.clear_round.result _ _
    (waiting_some c.args.show.now c.args.failmode s now f (fold_seen g.R.Runner.pending c.clear_round.new.fold) (g.J.Records.seen c.args.journal.now) (g.J.Records.seen c.clear_round.new.journal) (g.R.Runner.tells c.args.runner.now) (g.R.Runner.tells c.clear_round.new.runner)
    (g.O.Sink.holds c.args.out.now) (g.O.Sink.holds c.clear_round.new.out) some) c.clear_round.ensures.ran

pub returns-else-is_empty-clause-cut : goal.returns-else-is_empty-clause-cut
returns-else-is_empty-clause-cut g c =
    let f : SeenFold = fold_seen g.R.Runner.pending c.args.fold.now in
    let s : Standing = g.R.Runner.standing c.args.runner.now in
    let now : Standing = g.R.Runner.standing c.clear_round.new.runner in
    let some : has_trees f.suspended ≡ true = trees_items g.R.Runner.pending c.args.fold.now.suspended ∙ not_empty c.is_empty.result c.args.fold.now.suspended c.is_empty.ensures.1 c.if-is_empty.false in
    err_step c.clear_round.result _ _
    (λ e. waiting_cut c.args.show.now c.args.failmode s f (g.J.Records.seen c.args.journal.now) (g.J.Records.seen c.clear_round.new.journal) (g.R.Runner.tells c.args.runner.now) (g.R.Runner.tells c.clear_round.new.runner)
    (g.O.Sink.holds c.args.out.now) (g.O.Sink.holds c.clear_round.new.out) e some) c.clear_round.ensures.cut

pub returns-else-is_empty-clause-going : goal.returns-else-is_empty-clause-going
returns-else-is_empty-clause-going g c =
    let f : SeenFold = fold_seen g.R.Runner.pending c.args.fold.now in
    let s : Standing = g.R.Runner.standing c.args.runner.now in
    let now : Standing = g.R.Runner.standing c.clear_round.new.runner in
    let some : has_trees f.suspended ≡ true = trees_items g.R.Runner.pending c.args.fold.now.suspended ∙ not_empty c.is_empty.result c.args.fold.now.suspended c.is_empty.ensures.1 c.if-is_empty.false in
    when_ok c.clear_round.result _ _ _ _ _ _ _ c.clear_round.ensures.waits c.clear_round.ensures.few c.clear_round.ensures.steady c.clear_round.ensures.counted c.clear_round.ensures.counted c.clear_round.ensures.counted
    (λ waits few steady counted again more held later spare h.
    (let x = len_map (λ (r : Bor Request). r.now) c.args.fold.now.unfinished.items in
    let y = len_map (λ (r : Bor Request). r.now) c.clear_round.new.fold.unfinished.items in
    going_clear g.R.Runner.fits s now (g.J.Records.seen c.args.journal.now).rounds (g.J.Records.seen c.clear_round.new.journal).rounds f (fold_seen g.R.Runner.pending c.clear_round.new.fold) held later spare waits.0 h steady c.clear_round.ensures.rows counted waits.1 (omega arith)))
