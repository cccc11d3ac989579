use Rattle.std.proofs.Common.{◌+◌, ℕ, List, [], map, reverse, Bor, refl, sym, ap, subst, ◌∙◌, inl, inr}
use Rattle.zio_types.specs.declared.journal.Completion.{Completion}
use Rattle.zio_script.specs.declared.script.Request.{Request}
use Rattle.zio_gang.specs.declared.tree.Tree.{Tree}
use Rattle.zio_gang.specs.Attempts.{Pending}
use Rattle.zio_gang.specs.Rounds.{block_of, bound_after}
use Rattle.zio_report.specs.Lines.{AreWhole}
use Rattle.zio_course.specs.declared.runner.RequestEnd.{RequestEnd}
use Rattle.zio_course.specs.declared.runner.Stop.TheVariants.{Memory as NoMemory}
use Rattle.zio_course.specs.Answered.{answered_in}
use Rattle.zio_course.specs.Forests.{names_of}
use Rattle.zio_course.specs.Runners.{IsCutRound, stopping_of, terms_at}
use Rattle.zio_course.specs.Told.{AreFinishedOf, ended_told, line_told, no_error}
use Rattle.zio_course.proofs.BatchLemmas.{Whole, stopped_by, whole_moved}
use Rattle.zio_course.proofs.FitLemmas.{bound_fits}
use Rattle.zio_course.proofs.SuspendedLemmas.{finished_of_suspended, none_answered}
use Rattle.zio_course.proofs.ToldLemmas.{lines_whole}
use Rattle.zio_course.proofs.suspended.run_suspended.Goals as goal

pub tell_suspended-requires-clause-finished : goal.tell_suspended-requires-clause-finished
tell_suspended-requires-clause-finished g c =
    let requests : List Request = map (λ (r : Bor Request). r.now) c.args.unfinished.now in
    let w = c.in_ok-finished.ensures.whole in
    subst (AreFinishedOf requests) (sym w.1.finished_is)
    (finished_of_suspended (map g.R.Runner.pending c.args.trees) w.0.left requests w.0.finished c.requires.unfinished w.2.rising w.2.each)

pub returns-in_err-finished-clause-cut : goal.returns-in_err-finished-clause-cut
returns-in_err-finished-clause-cut g c =
    stopped_by c.from_residual.result c.in_err-finished.field-0.0 _ c.from_residual.ensures.1
    (λ before told.
    (let x = c.in_err-finished.ensures.cut before told in
    let cut = subst (λ (n : ℕ). IsCutRound c.in_err-finished.field-0.0 (stopping_of (g.R.Runner.standing c.whole_round.new.runner) (g.R.Runner.stops c.whole_round.new.runner))
    (terms_at (g.R.Runner.standing c.args.runner.now) c.args.failmode (n + 1) c.args.point) (map g.R.Runner.pending c.args.trees) before x.0) c.rounds-round.ensures x.2 in
    (x.0, x.1, inr (inl (c.in_err-finished.ensures.kept, cut, x.3)))))

pub returns-in_err-lines-clause-cut : goal.returns-in_err-lines-clause-cut
returns-in_err-lines-clause-cut g c =
    let trees : List (List Pending) = map g.R.Runner.pending c.args.trees in
    let none : List Completion = [] in
    let w : Whole (g.R.Runner.standing c.args.runner.now) trees none (g.R.Runner.tells c.args.runner.now) c.args.failmode ((g.J.Records.seen c.args.journal.now).rounds + 1) c.args.point
    (g.J.Records.seen c.args.journal.now) (g.J.Records.seen c.whole_round.new.journal) (g.R.Runner.standing c.whole_round.new.runner) (g.R.Runner.tells c.whole_round.new.runner)
    c.in_ok-finished.field-0.finished (map g.R.Runner.pending c.in_ok-finished.field-0.left) =
    subst (λ (n : ℕ). Whole (g.R.Runner.standing c.args.runner.now) trees none (g.R.Runner.tells c.args.runner.now) c.args.failmode (n + 1) c.args.point
    (g.J.Records.seen c.args.journal.now) (g.J.Records.seen c.whole_round.new.journal) (g.R.Runner.standing c.whole_round.new.runner) (g.R.Runner.tells c.whole_round.new.runner)
    c.in_ok-finished.field-0.finished (map g.R.Runner.pending c.in_ok-finished.field-0.left)) c.rounds-round.ensures
    (whole_moved _ _ _ _ _ _ _ _ _ _ _ _ _ _ _ _ _ refl refl c.new.ensures (λ images h. h) c.in_ok-finished.ensures.whole) in
    stopped_by c.from_residual-in_err-lines.result NoMemory _ c.from_residual-in_err-lines.ensures.1
    (λ before told.
    (let after = w.4 before told in (
      after.0,
      after.1,
      inr (inr (refl, w.3.stopped, w.0, record { places = w.1.places; completions = w.1.completions; rounds = w.1.rounds; finished_is = refl; left_is = refl }, w.2, w.3, after.2)),
    )))

pub returns-clause-ran : goal.returns-clause-ran
returns-clause-ran g c =
    let requests : List Request = map (λ (r : Bor Request). r.now) c.args.unfinished.now in
    let entries : List (List ℕ × Tree) = c.args.bound.now in
    let trees : List (List Pending) = map g.R.Runner.pending c.args.trees in
    let answered : List Completion = reverse (answered_in no_error ((g.J.Records.seen c.args.journal.now).rounds + 1) requests) in
    let w : Whole (g.R.Runner.standing c.args.runner.now) trees answered (g.R.Runner.tells c.args.runner.now) c.args.failmode ((g.J.Records.seen c.args.journal.now).rounds + 1) c.args.point
    (g.J.Records.seen c.args.journal.now) (g.J.Records.seen c.whole_round.new.journal) (g.R.Runner.standing c.whole_round.new.runner) (g.R.Runner.tells c.whole_round.new.runner)
    c.in_ok-finished.field-0.finished (map g.R.Runner.pending c.in_ok-finished.field-0.left) =
    subst (λ (n : ℕ). Whole (g.R.Runner.standing c.args.runner.now) trees answered (g.R.Runner.tells c.args.runner.now) c.args.failmode (n + 1) c.args.point
    (g.J.Records.seen c.args.journal.now) (g.J.Records.seen c.whole_round.new.journal) (g.R.Runner.standing c.whole_round.new.runner) (g.R.Runner.tells c.whole_round.new.runner)
    c.in_ok-finished.field-0.finished (map g.R.Runner.pending c.in_ok-finished.field-0.left)) c.rounds-round.ensures
    (whole_moved _ _ _ _ _ _ _ _ _ _ _ _ _ _ _ _ _ refl refl (c.new.ensures ∙ sym (ap reverse (none_answered ((g.J.Records.seen c.args.journal.now).rounds + 1) requests))) (λ images h. h) c.in_ok-finished.ensures.whole) in (
      w.0,
      record {
        journal = record { places = w.1.places; completions = w.1.completions; rounds = w.1.rounds; finished_is = refl; left_is = w.1.left_is };
        lines_are = c.in_ok-lines.ensures.lines ∙ ap (λ (fs : List RequestEnd). map (line_told no_error fs) requests) w.1.finished_is;
        bound_is = λ name. c.in_ok-lines.ensures.bound name
            ∙ ap (λ (fs : List RequestEnd). block_of (bound_after (ended_told no_error fs requests) (names_of entries)) name) w.1.finished_is;
      },
      w.2,
      w.3,
      w.4,
    )

pub returns-clause-shown : goal.returns-clause-shown
returns-clause-shown g c =
    let requests : List Request = map (λ (r : Bor Request). r.now) c.args.unfinished.now in
    let w = c.in_ok-finished.ensures.whole in
    subst AreWhole (sym (c.in_ok-lines.ensures.lines ∙ ap (λ (fs : List RequestEnd). map (line_told no_error fs) requests) w.1.finished_is))
    (lines_whole no_error w.0.finished requests w.2.sectors)

pub returns-clause-fits : goal.returns-clause-fits
returns-clause-fits g c =
    bound_fits g.R.Runner.fits no_error c.in_ok-finished.field-0.finished (map (λ (r : Bor Request). r.now) c.args.unfinished.now) c.args.bound.now c.tell_suspended.new.bound
    c.requires.fits c.in_ok-finished.ensures.fits c.in_ok-lines.ensures.bound
