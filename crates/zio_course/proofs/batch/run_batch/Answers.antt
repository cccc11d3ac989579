use Rattle.std.proofs.Common.{ℕ, ◌+◌, List, map, reverse, Option, refl, sym, ap, subst, ◌∙◌, inl, inr}
use Rattle.zio_types.specs.declared.error.Errno.{Errno}
use Rattle.zio_types.specs.declared.journal.Completion.{Completion}
use Rattle.zio_script.specs.declared.script.Request.{Request}
use Rattle.zio_script.specs.Requests.{requests_of}
use Rattle.zio_gang.specs.declared.tree.Tree.{Tree}
use Rattle.zio_gang.specs.Attempts.{Pending}
use Rattle.zio_gang.specs.Rounds.{block_of, bound_after, pending_trees, trees_of}
use Rattle.zio_report.specs.Lines.{AreWhole}
use Rattle.zio_course.specs.declared.admission.Rules.{Rules}
use Rattle.zio_course.specs.declared.runner.RequestEnd.{RequestEnd}
use Rattle.zio_course.specs.declared.runner.Stop.TheVariants.{Memory as NoMemory}
use Rattle.zio_course.specs.Admissions.{error_in}
use Rattle.zio_course.specs.Answered.{answered_in}
use Rattle.zio_course.specs.Forests.{names_of, running}
use Rattle.zio_course.specs.Runners.{IsCutRound, Standing, numbers_of, requests_in, stopping_of, terms_at}
use Rattle.zio_course.specs.Told.{AreFinishedOf, ended_told, line_told}
use Rattle.zio_course.proofs.BatchLemmas.{Whole, broken_moved, stopped_by, whole_moved}
use Rattle.zio_course.proofs.EndLemmas.{finished_of_batch}
use Rattle.zio_course.proofs.FitLemmas.{bound_fits}
use Rattle.zio_course.proofs.PlantLemmas.{ready_rising}
use Rattle.zio_course.proofs.ToldLemmas.{lines_whole}
use Rattle.zio_course.proofs.batch.run_batch.Goals as goal

pub tell_batch-requires-clause-finished : goal.tell_batch-requires-clause-finished
tell_batch-requires-clause-finished g c =
    let slots : List (ℕ × ℕ) = c.args.admission.now.slots.entries in
    let rules : List Rules = c.args.admission.now.rules.items in
    let entries : List (List ℕ × Tree) = c.args.bound.now in
    let runs : List Request = running slots rules c.args.batch.now in
    let trees : List (List Pending) = pending_trees (names_of entries) c.args.number (trees_of runs) in
    let answered : List Completion = reverse (answered_in (error_in slots rules) (c.rounds-round.result + 1) (requests_of c.args.batch.now)) in
    let w : Whole (g.R.Runner.standing c.args.runner.now) trees answered (g.R.Runner.tells c.args.runner.now) c.args.failmode (c.rounds-round.result + 1) c.args.point
    (g.J.Records.seen c.args.journal.now) (g.J.Records.seen c.whole_round.new.journal) (g.R.Runner.standing c.whole_round.new.runner) (g.R.Runner.tells c.whole_round.new.runner)
    c.in_ok-finished.field-0.finished (map g.R.Runner.pending c.in_ok-finished.field-0.left) =
    whole_moved _ _ _ _ _ _ _ _ _ _ _ _ _ _ _ _ _ c.in_ok-trees.ensures.stays.standing c.in_ok-trees.ensures.trees c.in_ok-answered.ensures
    (λ images h. (c.in_ok-trees.ensures.stays.images images).0 h) c.in_ok-finished.ensures.whole in
    subst (AreFinishedOf runs) (sym w.1.finished_is)
    (finished_of_batch (names_of entries) c.args.number runs w.0.finished (numbers_of (requests_in w.0.left))
    (ready_rising c.args.number entries runs c.requires.ready) w.2.rising w.2.each)

pub returns-in_err-trees-clause-cut : goal.returns-in_err-trees-clause-cut
returns-in_err-trees-clause-cut g c =
    stopped_by c.from_residual.result NoMemory _ c.from_residual.ensures.1
    (λ before told. (before, (c.in_err-trees.ensures.stays.images before).0 told, inl (refl, ap (λ (s : Standing). s.stopped) c.in_err-trees.ensures.stays.standing ∙ c.requires.runs, refl, refl)))

pub returns-in_err-answered-clause-cut : goal.returns-in_err-answered-clause-cut
returns-in_err-answered-clause-cut g c =
    stopped_by c.from_residual-in_err-answered.result NoMemory _ c.from_residual-in_err-answered.ensures.1
    (λ before told. (before, (c.in_ok-trees.ensures.stays.images before).0 told, inl (refl, ap (λ (s : Standing). s.stopped) c.in_ok-trees.ensures.stays.standing ∙ c.requires.runs, refl, refl)))

pub returns-in_err-finished-clause-cut : goal.returns-in_err-finished-clause-cut
returns-in_err-finished-clause-cut g c =
    stopped_by c.from_residual-in_err-finished.result c.in_err-finished.field-0.0 _ c.from_residual-in_err-finished.ensures.1
    (λ before told.
    (let x = c.in_err-finished.ensures.cut before ((c.in_ok-trees.ensures.stays.images before).0 told) in
    let cut = subst (λ (n : ℕ). IsCutRound c.in_err-finished.field-0.0 (stopping_of (g.R.Runner.standing c.whole_round.new.runner) (g.R.Runner.stops c.whole_round.new.runner))
    (terms_at (g.R.Runner.standing c.trees_to_run.new.runner) c.args.failmode (n + 1) c.args.point) (map g.R.Runner.pending c.in_ok-trees.trees) before x.0) c.rounds-round.ensures x.2 in
    let moved = broken_moved (g.R.Runner.standing c.args.runner.now) (g.R.Runner.standing c.trees_to_run.new.runner) (stopping_of (g.R.Runner.standing c.whole_round.new.runner) (g.R.Runner.stops c.whole_round.new.runner)) c.in_err-finished.field-0.0
    _ _ c.args.failmode ((g.J.Records.seen c.args.journal.now).rounds + 1) c.args.point before x.0 c.in_ok-trees.ensures.stays.standing c.in_ok-trees.ensures.trees (cut, x.3) in
    (x.0, x.1, inr (inl (c.in_err-finished.ensures.kept, moved.0, moved.1)))))

pub returns-in_err-lines-clause-cut : goal.returns-in_err-lines-clause-cut
returns-in_err-lines-clause-cut g c =
    let slots : List (ℕ × ℕ) = c.args.admission.now.slots.entries in
    let rules : List Rules = c.args.admission.now.rules.items in
    let entries : List (List ℕ × Tree) = c.args.bound.now in
    let trees : List (List Pending) = pending_trees (names_of entries) c.args.number (trees_of (running slots rules c.args.batch.now)) in
    let answered : List Completion = reverse (answered_in (error_in slots rules) ((g.J.Records.seen c.args.journal.now).rounds + 1) (requests_of c.args.batch.now)) in
    let w : Whole (g.R.Runner.standing c.args.runner.now) trees answered (g.R.Runner.tells c.args.runner.now) c.args.failmode ((g.J.Records.seen c.args.journal.now).rounds + 1) c.args.point
    (g.J.Records.seen c.args.journal.now) (g.J.Records.seen c.whole_round.new.journal) (g.R.Runner.standing c.whole_round.new.runner) (g.R.Runner.tells c.whole_round.new.runner)
    c.in_ok-finished.field-0.finished (map g.R.Runner.pending c.in_ok-finished.field-0.left) =
    subst (λ (n : ℕ). Whole (g.R.Runner.standing c.args.runner.now) trees (reverse (answered_in (error_in slots rules) (n + 1) (requests_of c.args.batch.now))) (g.R.Runner.tells c.args.runner.now) c.args.failmode (n + 1) c.args.point
    (g.J.Records.seen c.args.journal.now) (g.J.Records.seen c.whole_round.new.journal) (g.R.Runner.standing c.whole_round.new.runner) (g.R.Runner.tells c.whole_round.new.runner)
    c.in_ok-finished.field-0.finished (map g.R.Runner.pending c.in_ok-finished.field-0.left)) c.rounds-round.ensures
    (whole_moved _ _ _ _ _ _ _ _ _ _ _ _ _ _ _ _ _ c.in_ok-trees.ensures.stays.standing c.in_ok-trees.ensures.trees c.in_ok-answered.ensures
    (λ images h. (c.in_ok-trees.ensures.stays.images images).0 h) c.in_ok-finished.ensures.whole) in
    stopped_by c.from_residual-in_err-lines.result NoMemory _ c.from_residual-in_err-lines.ensures.1
    (λ before told.
    (let after = w.4 before told in (
      after.0,
      after.1,
      inr (inr (refl, w.3.stopped, w.0, record { places = w.1.places; completions = w.1.completions; rounds = w.1.rounds; finished_is = refl; left_is = refl }, w.2, w.3, after.2)),
    )))

pub returns-clause-ran : goal.returns-clause-ran
returns-clause-ran g c =
    let slots : List (ℕ × ℕ) = c.args.admission.now.slots.entries in
    let rules : List Rules = c.args.admission.now.rules.items in
    let error : ℕ → Option Errno = error_in slots rules in
    let requests : List Request = requests_of c.args.batch.now in
    let entries : List (List ℕ × Tree) = c.args.bound.now in
    let after_bound : List (List ℕ × Tree) = c.tell_batch.new.bound in
    let trees : List (List Pending) = pending_trees (names_of entries) c.args.number (trees_of (running slots rules c.args.batch.now)) in
    let answered : List Completion = reverse (answered_in error ((g.J.Records.seen c.args.journal.now).rounds + 1) requests) in
    let w : Whole (g.R.Runner.standing c.args.runner.now) trees answered (g.R.Runner.tells c.args.runner.now) c.args.failmode ((g.J.Records.seen c.args.journal.now).rounds + 1) c.args.point
    (g.J.Records.seen c.args.journal.now) (g.J.Records.seen c.whole_round.new.journal) (g.R.Runner.standing c.whole_round.new.runner) (g.R.Runner.tells c.whole_round.new.runner)
    c.in_ok-finished.field-0.finished (map g.R.Runner.pending c.in_ok-finished.field-0.left) =
    subst (λ (n : ℕ). Whole (g.R.Runner.standing c.args.runner.now) trees (reverse (answered_in error (n + 1) requests)) (g.R.Runner.tells c.args.runner.now) c.args.failmode (n + 1) c.args.point
    (g.J.Records.seen c.args.journal.now) (g.J.Records.seen c.whole_round.new.journal) (g.R.Runner.standing c.whole_round.new.runner) (g.R.Runner.tells c.whole_round.new.runner)
    c.in_ok-finished.field-0.finished (map g.R.Runner.pending c.in_ok-finished.field-0.left)) c.rounds-round.ensures
    (whole_moved _ _ _ _ _ _ _ _ _ _ _ _ _ _ _ _ _ c.in_ok-trees.ensures.stays.standing c.in_ok-trees.ensures.trees c.in_ok-answered.ensures
    (λ images h. (c.in_ok-trees.ensures.stays.images images).0 h) c.in_ok-finished.ensures.whole) in (
      w.0,
      record {
        journal = record { places = w.1.places; completions = w.1.completions; rounds = w.1.rounds; finished_is = refl; left_is = w.1.left_is };
        lines_are = c.in_ok-lines.ensures.lines ∙ ap (λ (fs : List RequestEnd). map (line_told error fs) requests) w.1.finished_is;
        bound_is = λ name. c.in_ok-lines.ensures.bound name
            ∙ ap (λ (fs : List RequestEnd). block_of (bound_after (ended_told error fs requests) (names_of entries)) name) w.1.finished_is;
      },
      w.2,
      w.3,
      w.4,
    )

pub returns-clause-shown : goal.returns-clause-shown
returns-clause-shown g c =
    let slots : List (ℕ × ℕ) = c.args.admission.now.slots.entries in
    let rules : List Rules = c.args.admission.now.rules.items in
    let error : ℕ → Option Errno = error_in slots rules in
    let requests : List Request = requests_of c.args.batch.now in
    let entries : List (List ℕ × Tree) = c.args.bound.now in
    let trees : List (List Pending) = pending_trees (names_of entries) c.args.number (trees_of (running slots rules c.args.batch.now)) in
    let answered : List Completion = reverse (answered_in error (c.rounds-round.result + 1) requests) in
    let w : Whole (g.R.Runner.standing c.args.runner.now) trees answered (g.R.Runner.tells c.args.runner.now) c.args.failmode (c.rounds-round.result + 1) c.args.point
    (g.J.Records.seen c.args.journal.now) (g.J.Records.seen c.whole_round.new.journal) (g.R.Runner.standing c.whole_round.new.runner) (g.R.Runner.tells c.whole_round.new.runner)
    c.in_ok-finished.field-0.finished (map g.R.Runner.pending c.in_ok-finished.field-0.left) =
    whole_moved _ _ _ _ _ _ _ _ _ _ _ _ _ _ _ _ _ c.in_ok-trees.ensures.stays.standing c.in_ok-trees.ensures.trees c.in_ok-answered.ensures
    (λ images h. (c.in_ok-trees.ensures.stays.images images).0 h) c.in_ok-finished.ensures.whole in
    subst AreWhole (sym (c.in_ok-lines.ensures.lines ∙ ap (λ (fs : List RequestEnd). map (line_told error fs) requests) w.1.finished_is))
    (lines_whole error w.0.finished requests w.2.sectors)

pub returns-clause-fits : goal.returns-clause-fits
returns-clause-fits g c =
    let error : ℕ → Option Errno = error_in c.args.admission.now.slots.entries c.args.admission.now.rules.items in
    bound_fits g.R.Runner.fits error c.in_ok-finished.field-0.finished (requests_of c.args.batch.now) c.args.bound.now c.tell_batch.new.bound
    c.requires.fits c.in_ok-finished.ensures.fits c.in_ok-lines.ensures.bound
