use Rattle.std.proofs.Common.{◌≡◌, ◌+◌, List, [], ◌∷◌, ◌++◌, Bool, true, false, not, ◌||◌, Bor, sym, ap, subst, ◌∙◌, arith}
use Rattle.zio_script.specs.declared.script.Failmode.{Failmode}
use Rattle.zio_script.specs.declared.script.Request.{Request}
use Rattle.zio_gang.specs.Runs.{Batch as DefinedBatch, goes_on, has_trees}
use Rattle.zio_report.specs.declared.report.RunFault.TheVariants.{Sink, Memory}
use Rattle.zio_report.specs.Reports.{held_text}
use Rattle.zio_course.specs.Course.{shown_of}
use Rattle.zio_course.specs.Folds.{SeenFold, batch_seen, batches_seen, fold_seen, requests_in_all}
use Rattle.zio_course.specs.Moves.{IsGoing, requests_held}
use Rattle.zio_course.specs.Runners.{Standing}
use Rattle.zio_course.specs.SoFar.{IsCourseAt, IsCutText}
use Rattle.zio_course.proofs.AdmittedLemmas.{not_both}
use Rattle.zio_course.proofs.CutLemmas.{by_fault, cut_at, nothing_more, part_written, printed_ends}
use Rattle.zio_course.proofs.MoveLemmas.{err_step, first_few, first_fits, first_two, going_batch, going_take, holds_at, line_runs, line_runs_cut, ok_any, ok_step}
use Rattle.zio_course.proofs.RoundsLemmas.{len_map, map_two, trees_items, when_ok}
use Rattle.zio_course.proofs.go.go_line.Goals as goal

pub batch_round-requires-clause-rising : goal.batch_round-requires-clause-rising
batch_round-requires-clause-rising g c =
    let f : SeenFold = fold_seen g.R.Runner.pending c.args.fold.now in
    let s : Standing = g.R.Runner.standing c.args.runner.now in
    let held : List DefinedBatch = batches_seen c.args.held.now.items in
    let b : DefinedBatch = batch_seen c.args.batch.now in
    let runs : (not (has_trees f.suspended) || goes_on c.args.failmode) ≡ true =
    ap (λ (x : Bool). not x || goes_on c.args.failmode) (trees_items g.R.Runner.pending c.args.fold.now.suspended) ∙ (sym c.runs_now.ensures ∙ c.if-runs_now.true) in
    let none : held ≡ [] = c.requires.waits runs in
    let going : IsGoing g.R.Runner.fits s (g.J.Records.seen c.args.journal.now).rounds f (b ∷ []) c.requires.going.0 c.requires.going.1 =
    going_take g.R.Runner.fits s (g.J.Records.seen c.args.journal.now).rounds f [] b c.requires.going.0 c.requires.going.1 c.requires.number
    (subst (λ (bs : List DefinedBatch). IsGoing g.R.Runner.fits s (g.J.Records.seen c.args.journal.now).rounds f bs (b.requests ∷ c.requires.going.0) (c.requires.going.1 + 1)) none c.requires.going.2) in
    first_two f.unfinished b.requests (requests_in_all c.requires.going.0) going.rising

pub batch_round-requires-clause-steady : goal.batch_round-requires-clause-steady
batch_round-requires-clause-steady g c = c.requires.going.2.steady

pub batch_round-requires-clause-orderly : goal.batch_round-requires-clause-orderly
batch_round-requires-clause-orderly g c =
    let f : SeenFold = fold_seen g.R.Runner.pending c.args.fold.now in
    let s : Standing = g.R.Runner.standing c.args.runner.now in
    let held : List DefinedBatch = batches_seen c.args.held.now.items in
    let b : DefinedBatch = batch_seen c.args.batch.now in
    let runs : (not (has_trees f.suspended) || goes_on c.args.failmode) ≡ true =
    ap (λ (x : Bool). not x || goes_on c.args.failmode) (trees_items g.R.Runner.pending c.args.fold.now.suspended) ∙ (sym c.runs_now.ensures ∙ c.if-runs_now.true) in
    let none : held ≡ [] = c.requires.waits runs in
    let going : IsGoing g.R.Runner.fits s (g.J.Records.seen c.args.journal.now).rounds f (b ∷ []) c.requires.going.0 c.requires.going.1 =
    going_take g.R.Runner.fits s (g.J.Records.seen c.args.journal.now).rounds f [] b c.requires.going.0 c.requires.going.1 c.requires.number
    (subst (λ (bs : List DefinedBatch). IsGoing g.R.Runner.fits s (g.J.Records.seen c.args.journal.now).rounds f bs (b.requests ∷ c.requires.going.0) (c.requires.going.1 + 1)) none c.requires.going.2) in
    going.orderly.0

pub batch_round-requires-clause-rounds : goal.batch_round-requires-clause-rounds
batch_round-requires-clause-rounds g c =
    let f : SeenFold = fold_seen g.R.Runner.pending c.args.fold.now in
    let s : Standing = g.R.Runner.standing c.args.runner.now in
    let held : List DefinedBatch = batches_seen c.args.held.now.items in
    let b : DefinedBatch = batch_seen c.args.batch.now in
    let runs : (not (has_trees f.suspended) || goes_on c.args.failmode) ≡ true =
    ap (λ (x : Bool). not x || goes_on c.args.failmode) (trees_items g.R.Runner.pending c.args.fold.now.suspended) ∙ (sym c.runs_now.ensures ∙ c.if-runs_now.true) in
    let none : held ≡ [] = c.requires.waits runs in
    let going : IsGoing g.R.Runner.fits s (g.J.Records.seen c.args.journal.now).rounds f (b ∷ []) c.requires.going.0 c.requires.going.1 =
    going_take g.R.Runner.fits s (g.J.Records.seen c.args.journal.now).rounds f [] b c.requires.going.0 c.requires.going.1 c.requires.number
    (subst (λ (bs : List DefinedBatch). IsGoing g.R.Runner.fits s (g.J.Records.seen c.args.journal.now).rounds f bs (b.requests ∷ c.requires.going.0) (c.requires.going.1 + 1)) none c.requires.going.2) in
    first_fits (g.J.Records.seen c.args.journal.now).rounds 0 c.requires.going.1 going.rounds_fit

pub batch_round-requires-clause-few : goal.batch_round-requires-clause-few
batch_round-requires-clause-few g c =
    let f : SeenFold = fold_seen g.R.Runner.pending c.args.fold.now in
    let s : Standing = g.R.Runner.standing c.args.runner.now in
    let held : List DefinedBatch = batches_seen c.args.held.now.items in
    let b : DefinedBatch = batch_seen c.args.batch.now in
    let runs : (not (has_trees f.suspended) || goes_on c.args.failmode) ≡ true =
    ap (λ (x : Bool). not x || goes_on c.args.failmode) (trees_items g.R.Runner.pending c.args.fold.now.suspended) ∙ (sym c.runs_now.ensures ∙ c.if-runs_now.true) in
    let none : held ≡ [] = c.requires.waits runs in
    let going : IsGoing g.R.Runner.fits s (g.J.Records.seen c.args.journal.now).rounds f (b ∷ []) c.requires.going.0 c.requires.going.1 =
    going_take g.R.Runner.fits s (g.J.Records.seen c.args.journal.now).rounds f [] b c.requires.going.0 c.requires.going.1 c.requires.number
    (subst (λ (bs : List DefinedBatch). IsGoing g.R.Runner.fits s (g.J.Records.seen c.args.journal.now).rounds f bs (b.requests ∷ c.requires.going.0) (c.requires.going.1 + 1)) none c.requires.going.2) in
    first_few (c.args.fold.now.tally.good + c.args.fold.now.tally.bad) f.unfinished b.requests (requests_in_all c.requires.going.0) going.few

pub returns-then-runs_now-clause-ran : goal.returns-then-runs_now-clause-ran
returns-then-runs_now-clause-ran g c =
    let f : SeenFold = fold_seen g.R.Runner.pending c.args.fold.now in
    let s : Standing = g.R.Runner.standing c.args.runner.now in
    let held : List DefinedBatch = batches_seen c.args.held.now.items in
    let b : DefinedBatch = batch_seen c.args.batch.now in
    let runs : (not (has_trees f.suspended) || goes_on c.args.failmode) ≡ true =
    ap (λ (x : Bool). not x || goes_on c.args.failmode) (trees_items g.R.Runner.pending c.args.fold.now.suspended) ∙ (sym c.runs_now.ensures ∙ c.if-runs_now.true) in
    let none : held ≡ [] = c.requires.waits runs in
    ok_step c.batch_round.result _ _
    (λ step batches number. line_runs c.args.show.now c.args.failmode s (g.R.Runner.standing c.batch_round.new.runner) f (fold_seen g.R.Runner.pending c.batch_round.new.fold) held b batches (g.J.Records.seen c.args.journal.now) (g.J.Records.seen c.batch_round.new.journal)
    (g.R.Runner.tells c.args.runner.now) (g.R.Runner.tells c.batch_round.new.runner) (g.O.Sink.holds c.args.out.now) (g.O.Sink.holds c.batch_round.new.out) runs none number step) c.batch_round.ensures.ran

pub returns-then-runs_now-clause-cut : goal.returns-then-runs_now-clause-cut
returns-then-runs_now-clause-cut g c =
    let f : SeenFold = fold_seen g.R.Runner.pending c.args.fold.now in
    let s : Standing = g.R.Runner.standing c.args.runner.now in
    let held : List DefinedBatch = batches_seen c.args.held.now.items in
    let b : DefinedBatch = batch_seen c.args.batch.now in
    let runs : (not (has_trees f.suspended) || goes_on c.args.failmode) ≡ true =
    ap (λ (x : Bool). not x || goes_on c.args.failmode) (trees_items g.R.Runner.pending c.args.fold.now.suspended) ∙ (sym c.runs_now.ensures ∙ c.if-runs_now.true) in
    let none : held ≡ [] = c.requires.waits runs in
    err_step c.batch_round.result _ _
    (λ e step batches number. line_runs_cut c.args.show.now c.args.failmode s f held b batches (g.J.Records.seen c.args.journal.now) (g.J.Records.seen c.batch_round.new.journal)
    (g.R.Runner.tells c.args.runner.now) (g.R.Runner.tells c.batch_round.new.runner) (g.O.Sink.holds c.args.out.now) (g.O.Sink.holds c.batch_round.new.out) e runs none number step) c.batch_round.ensures.cut

pub returns-then-runs_now-clause-going : goal.returns-then-runs_now-clause-going
returns-then-runs_now-clause-going g c =
    let f : SeenFold = fold_seen g.R.Runner.pending c.args.fold.now in
    let s : Standing = g.R.Runner.standing c.args.runner.now in
    let held : List DefinedBatch = batches_seen c.args.held.now.items in
    let b : DefinedBatch = batch_seen c.args.batch.now in
    let runs : (not (has_trees f.suspended) || goes_on c.args.failmode) ≡ true =
    ap (λ (x : Bool). not x || goes_on c.args.failmode) (trees_items g.R.Runner.pending c.args.fold.now.suspended) ∙ (sym c.runs_now.ensures ∙ c.if-runs_now.true) in
    let none : held ≡ [] = c.requires.waits runs in
    when_ok c.batch_round.result _ _ _ _ _ _ _ c.batch_round.ensures.waits c.batch_round.ensures.few c.batch_round.ensures.steady c.batch_round.ensures.counted c.batch_round.ensures.counted c.batch_round.ensures.counted
    (λ waits few steady counted again more later spare h.
    (let x = len_map (λ (r : Bor Request). r.now) c.args.fold.now.unfinished.items in
    let y = len_map (λ (r : Bor Request). r.now) c.batch_round.new.fold.unfinished.items in
    subst (λ (bs : List DefinedBatch). IsGoing g.R.Runner.fits (g.R.Runner.standing c.batch_round.new.runner) (g.J.Records.seen c.batch_round.new.journal).rounds (fold_seen g.R.Runner.pending c.batch_round.new.fold) bs later spare) (sym none)
    (going_batch g.R.Runner.fits s (g.R.Runner.standing c.batch_round.new.runner) (g.J.Records.seen c.args.journal.now).rounds (g.J.Records.seen c.batch_round.new.journal).rounds f (fold_seen g.R.Runner.pending c.batch_round.new.fold) b [] later spare waits.0
    (going_take g.R.Runner.fits s (g.J.Records.seen c.args.journal.now).rounds f [] b later spare c.requires.number
    (subst (λ (bs : List DefinedBatch). IsGoing g.R.Runner.fits s (g.J.Records.seen c.args.journal.now).rounds f bs (b.requests ∷ later) (spare + 1)) none h))
    steady c.batch_round.ensures.rows counted waits.1 (omega arith))))

pub returns-then-runs_now-clause-waits : goal.returns-then-runs_now-clause-waits
returns-then-runs_now-clause-waits g c =
    let f : SeenFold = fold_seen g.R.Runner.pending c.args.fold.now in
    let s : Standing = g.R.Runner.standing c.args.runner.now in
    let held : List DefinedBatch = batches_seen c.args.held.now.items in
    let b : DefinedBatch = batch_seen c.args.batch.now in
    let runs : (not (has_trees f.suspended) || goes_on c.args.failmode) ≡ true =
    ap (λ (x : Bool). not x || goes_on c.args.failmode) (trees_items g.R.Runner.pending c.args.fold.now.suspended) ∙ (sym c.runs_now.ensures ∙ c.if-runs_now.true) in
    let none : held ≡ [] = c.requires.waits runs in
    ok_any c.batch_round.result _ (λ again. none)

pub returns-else-runs_now-clause-ran : goal.returns-else-runs_now-clause-ran
returns-else-runs_now-clause-ran g c =
    let f : SeenFold = fold_seen g.R.Runner.pending c.args.fold.now in
    let s : Standing = g.R.Runner.standing c.args.runner.now in
    let held : List DefinedBatch = batches_seen c.args.held.now.items in
    let b : DefinedBatch = batch_seen c.args.batch.now in
    let waits : (not (has_trees f.suspended) || goes_on c.args.failmode) ≡ false =
    ap (λ (x : Bool). not x || goes_on c.args.failmode) (trees_items g.R.Runner.pending c.args.fold.now.suspended) ∙ (sym c.runs_now.ensures ∙ c.if-runs_now.false) in
    when_ok c.hold.result _ _ _ _ _ _ _ c.hold.ensures.held c.hold.ensures.ok c.hold.ensures.quiet c.hold.ensures.quiet c.hold.ensures.quiet c.hold.ensures.quiet
    (λ held_is wrote q1 q2 q3 q4 batches number n script before images later printed rest mode orderly h told. (
      images,
      shown_of c.args.show.now (held_text b.number),
      subst (λ (bs : List DefinedBatch). IsCourseAt c.args.show.now n script before s f (record { held = bs; batch = []; batches = batches + 1 }) (requests_held bs ++ later) (g.J.Records.seen c.args.journal.now) images (printed ++ shown_of c.args.show.now (held_text b.number)) rest)
          (sym (ap batches_seen held_is ∙ map_two batch_seen c.args.held.now.items (c.args.batch.now ∷ [])))
          (holds_at c.args.show.now n script before s f held b batches later (g.J.Records.seen c.args.journal.now) images printed rest (ap (λ (m : Failmode). not (has_trees f.suspended) || goes_on m) mode ∙ waits) number h),
      told,
      wrote,
    ))

pub returns-else-runs_now-clause-cut : goal.returns-else-runs_now-clause-cut
returns-else-runs_now-clause-cut g c =
    let f : SeenFold = fold_seen g.R.Runner.pending c.args.fold.now in
    let s : Standing = g.R.Runner.standing c.args.runner.now in
    let held : List DefinedBatch = batches_seen c.args.held.now.items in
    let b : DefinedBatch = batch_seen c.args.batch.now in
    let waits : (not (has_trees f.suspended) || goes_on c.args.failmode) ≡ false =
    ap (λ (x : Bool). not x || goes_on c.args.failmode) (trees_items g.R.Runner.pending c.args.fold.now.suspended) ∙ (sym c.runs_now.ensures ∙ c.if-runs_now.false) in
    by_fault c.hold.result _
    (λ is. absurd (c.hold.ensures.device is))
    (λ is batches number n script before images later printed rest mode orderly h told. (
      images,
      printed ++ shown_of c.args.show.now (held_text b.number),
      cut_at _ _ _ _ _ _ _ _ _ _ _ _ Sink tt c.requires.going.2.steady.runs
          (holds_at c.args.show.now n script before s f held b batches later (g.J.Records.seen c.args.journal.now) images printed rest (ap (λ (m : Failmode). not (has_trees f.suspended) || goes_on m) mode ∙ waits) number h),
      told,
      part_written (g.O.Sink.holds c.args.out.now) (g.O.Sink.holds c.hold.new.out) printed (shown_of c.args.show.now (held_text b.number)) (c.hold.ensures.front is),
    ))
    (λ is batches number n script before images later printed rest mode orderly h told. (
      images,
      printed,
      cut_at _ _ _ _ _ _ _ _ _ _ _ _ Memory tt c.requires.going.2.steady.runs h,
      told,
      subst (λ out. IsCutText Memory (g.O.Sink.holds c.args.out.now) (g.O.Sink.holds out) printed printed) (sym (c.hold.ensures.memory is))
          (nothing_more Memory (g.O.Sink.holds c.args.out.now) printed (printed_ends _ _ _ _ _ _ _ _ _ _ _ _ h)),
    ))

pub returns-else-runs_now-clause-going : goal.returns-else-runs_now-clause-going
returns-else-runs_now-clause-going g c =
    let f : SeenFold = fold_seen g.R.Runner.pending c.args.fold.now in
    let s : Standing = g.R.Runner.standing c.args.runner.now in
    let held : List DefinedBatch = batches_seen c.args.held.now.items in
    let b : DefinedBatch = batch_seen c.args.batch.now in
    let waits : (not (has_trees f.suspended) || goes_on c.args.failmode) ≡ false =
    ap (λ (x : Bool). not x || goes_on c.args.failmode) (trees_items g.R.Runner.pending c.args.fold.now.suspended) ∙ (sym c.runs_now.ensures ∙ c.if-runs_now.false) in
    ok_step c.hold.result _ _
    (λ held_is later spare h.
    subst (λ (bs : List DefinedBatch). IsGoing g.R.Runner.fits s (g.J.Records.seen c.args.journal.now).rounds f bs later spare) (sym (ap batches_seen held_is ∙ map_two batch_seen c.args.held.now.items (c.args.batch.now ∷ [])))
    (going_take g.R.Runner.fits s (g.J.Records.seen c.args.journal.now).rounds f held b later spare c.requires.number h)) c.hold.ensures.held

pub returns-else-runs_now-clause-waits : goal.returns-else-runs_now-clause-waits
returns-else-runs_now-clause-waits g c =
    let f : SeenFold = fold_seen g.R.Runner.pending c.args.fold.now in
    let s : Standing = g.R.Runner.standing c.args.runner.now in
    let held : List DefinedBatch = batches_seen c.args.held.now.items in
    let b : DefinedBatch = batch_seen c.args.batch.now in
    let waits : (not (has_trees f.suspended) || goes_on c.args.failmode) ≡ false =
    ap (λ (x : Bool). not x || goes_on c.args.failmode) (trees_items g.R.Runner.pending c.args.fold.now.suspended) ∙ (sym c.runs_now.ensures ∙ c.if-runs_now.false) in
    ok_any c.hold.result _ (λ runs. not_both (not (has_trees f.suspended) || goes_on c.args.failmode) runs waits)
