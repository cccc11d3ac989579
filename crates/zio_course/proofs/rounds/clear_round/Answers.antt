use Rattle.std.proofs.Common.{◌≡◌, ℕ, ◌+◌, List, [], ◌++◌, length, map, drop, Bool, ◌&&◌, ◌||◌, Bor, None, sym, ap, subst, ◌∙◌, arith}
use Rattle.zio_types.specs.declared.journal.Completion.{Completion}
use Rattle.zio_types.specs.declared.journal.Journal.{Journal}
use Rattle.zio_types.specs.Choices.{Choice}
use Rattle.zio_script.specs.declared.script.Request.{Request}
use Rattle.zio_gang.specs.Attempts.{Pending}
use Rattle.zio_gang.specs.Runs.{is_panic}
use Rattle.zio_report.specs.declared.report.ReportLine.{ReportLine}
use Rattle.zio_report.specs.declared.report.RunFault.TheVariants.{Sink, Memory}
use Rattle.zio_report.specs.Lines.{round_text}
use Rattle.zio_course.specs.Folds.{SeenFold, fold_seen, is_named_by, waiting_of}
use Rattle.zio_course.specs.Runners.{AreRunnable, Standing, stopping_of, terms_at}
use Rattle.zio_course.specs.Entered.{IsCutShort}
use Rattle.zio_course.specs.SoFar.{IsCutText}
use Rattle.zio_course.proofs.CutLemmas.{by_fault, not_written, part_written, printed_ends}
use Rattle.zio_course.proofs.WaitLemmas.{suspended_runnable}
use Rattle.zio_course.proofs.RoundsLemmas.{ClearRan, by_stop, clear_moved, ends_alone, clear_cut, clear_short, clear_steady, clear_told, drop_own, few_told, len_map, trees_items, when_ok}
use Rattle.zio_course.proofs.rounds.clear_round.Goals as goal

pub run_suspended-requires-clause-trees : goal.run_suspended-requires-clause-trees
run_suspended-requires-clause-trees g c =
    let f : SeenFold = fold_seen g.R.Runner.pending c.args.fold.now in
    let s : Standing = g.R.Runner.standing c.args.runner.now in
    let trees_are : map g.R.Runner.pending c.replace-trees.result ≡ f.suspended = ap (map g.R.Runner.pending) c.replace-trees.ensures.value in
    let requests_are : map (λ (r : Bor Request). r.now) c.as_slice.result.now ≡ f.unfinished =
    ap (map (λ (r : Bor Request). r.now)) (c.as_slice.ensures.value ∙ ap (λ v. v.items) c.replace-requests.ensures.value) in
    subst (AreRunnable s) (sym trees_are) (suspended_runnable s f.bound f.suspended f.unfinished c.requires.steady.waits c.requires.steady.live)

pub returns-in_err-end-clause-cut : goal.returns-in_err-end-clause-cut
returns-in_err-end-clause-cut g c =
    let f : SeenFold = fold_seen g.R.Runner.pending c.args.fold.now in
    let s : Standing = g.R.Runner.standing c.args.runner.now in
    let trees_are : map g.R.Runner.pending c.replace-trees.result ≡ f.suspended = ap (map g.R.Runner.pending) c.replace-trees.ensures.value in
    let requests_are : map (λ (r : Bor Request). r.now) c.as_slice.result.now ≡ f.unfinished =
    ap (map (λ (r : Bor Request). r.now)) (c.as_slice.ensures.value ∙ ap (λ v. v.items) c.replace-requests.ensures.value) in
    by_stop c.from_residual.result c.in_err-end.field-0.0 _ c.from_residual.ensures.1
    (λ n script before images ahead later printed rest mode orderly h tells.
    (let short = c.in_err-end.ensures.cut images tells in
    let now : Standing = g.R.Runner.standing c.run_suspended.new.runner in
    let cut_short : IsCutShort s now (stopping_of now (g.R.Runner.stops c.run_suspended.new.runner)) c.in_err-end.field-0.0 (terms_at s c.args.failmode ((g.J.Records.seen c.args.journal.now).rounds + 1) f.point) f.suspended [] (g.J.Records.seen c.args.journal.now) (g.J.Records.seen c.run_suspended.new.journal) images short.0 =
    subst (λ (ts : List (List Pending)). IsCutShort s now (stopping_of now (g.R.Runner.stops c.run_suspended.new.runner)) c.in_err-end.field-0.0 (terms_at s c.args.failmode ((g.J.Records.seen c.args.journal.now).rounds + 1) f.point) ts [] (g.J.Records.seen c.args.journal.now) (g.J.Records.seen c.run_suspended.new.journal) images short.0) trees_are short.2 in
    let cut = clear_short c.args.show.now n script before s now f ahead later (g.J.Records.seen c.args.journal.now) (g.J.Records.seen c.run_suspended.new.journal) images short.0 printed c.args.failmode rest
    g.R.Runner.fits (g.J.Records.seen c.args.journal.now).rounds c.in_err-end.field-0.0 (g.O.Sink.holds c.args.out.now) mode orderly h c.requires.steady cut_short in
    (short.0, cut.0, cut.1, short.1, cut.2)))

pub returns-clause-ran : goal.returns-clause-ran
returns-clause-ran g c =
    let f : SeenFold = fold_seen g.R.Runner.pending c.args.fold.now in
    let s : Standing = g.R.Runner.standing c.args.runner.now in
    let trees_are : map g.R.Runner.pending c.replace-trees.result ≡ f.suspended = ap (map g.R.Runner.pending) c.replace-trees.ensures.value in
    let requests_are : map (λ (r : Bor Request). r.now) c.as_slice.result.now ≡ f.unfinished =
    ap (map (λ (r : Bor Request). r.now)) (c.as_slice.ensures.value ∙ ap (λ v. v.items) c.replace-requests.ensures.value) in
    let old : Journal = (g.J.Records.seen c.args.journal.now) in
    let new : Journal = (g.J.Records.seen c.run_suspended.new.journal) in
    let lines : List ReportLine = c.in_ok-end.end.lines in
    let left : List (List Pending) = map g.R.Runner.pending c.in_ok-end.end.left in
    let w : ClearRan s (g.R.Runner.standing c.run_suspended.new.runner) (g.R.Runner.tells c.args.runner.now) (g.R.Runner.tells c.run_suspended.new.runner) c.args.failmode f.point f.bound c.run_suspended.new.bound old new lines left f.suspended f.unfinished =
    clear_moved s (g.R.Runner.standing c.run_suspended.new.runner) (g.R.Runner.tells c.args.runner.now) (g.R.Runner.tells c.run_suspended.new.runner) c.args.failmode f.point f.bound c.run_suspended.new.bound old new lines left
    (map g.R.Runner.pending c.replace-trees.result) f.suspended (map (λ (r : Bor Request). r.now) c.as_slice.result.now) f.unfinished trees_are requests_are c.in_ok-end.ensures.ran in
    let places : List Choice = drop c.entries-places.result new.places in
    let done : List Completion = drop (length c.completions.result.now) new.completions in
    let text : List ℕ = round_text c.args.show.now (record { round = c.rounds.result; batch = None; point = f.point }) lines places done in
    let text_is : text ≡ round_text c.args.show.now (record { round = old.rounds + 1; batch = None; point = f.point }) lines w.0.entries w.0.completions =
    ap (λ (k : ℕ). round_text c.args.show.now (record { round = k; batch = None; point = f.point }) lines places done) (c.rounds.ensures ∙ w.1.journal.rounds)
    ∙ (ap (λ (cs : List Choice). round_text c.args.show.now (record { round = old.rounds + 1; batch = None; point = f.point }) lines cs done) (drop_own c.entries-places.result old.places new.places w.0.entries c.entries-places.ensures w.1.journal.places)
    ∙ ap (λ (cs : List Completion). round_text c.args.show.now (record { round = old.rounds + 1; batch = None; point = f.point }) lines w.0.entries cs)
    (drop_own (length c.completions.result.now) old.completions new.completions w.0.completions (ap length c.completions.ensures) (ends_alone old new f.unfinished w.0.completions w.1.journal.completions))) in
    let slice_is : map (λ (r : Bor Request). r.now) c.as_slice-2.result.now ≡ f.unfinished =
    ap (map (λ (r : Bor Request). r.now)) (c.as_slice-2.ensures.value ∙ ap (λ v. v.items) c.replace-requests.ensures.value) in
    let none_suspended : c.replace-trees.new.dest ≡ [] = c.replace-trees.ensures.after ∙ c.new-2.ensures in
    let none_waiting : c.replace-requests.new.dest.items ≡ [] = ap (λ v. v.items) c.replace-requests.ensures.after ∙ c.new.ensures.items in
    when_ok c.end_round.result _ _ _ _ _ _ _ c.end_round.ensures.suspended c.end_round.ensures.unfinished c.end_round.ensures.tally c.end_round.ensures.panicked c.end_round.ensures.ok c.end_round.ensures.sums
    (λ suspended_is unfinished_is tally_is panicked_is wrote sums n script before images ahead later printed rest mode orderly h tells.
    (let told = w.4 images tells in (
      told.0,
      text,
      clear_told c.args.show.now n script before s (g.R.Runner.standing c.run_suspended.new.runner) f (fold_seen g.R.Runner.pending c.end_round.new.fold) ahead later old new images told.0 printed text w.0 lines
          left c.args.failmode c.run_suspended.new.bound rest g.R.Runner.fits old.rounds mode orderly h c.requires.steady w.1 w.2 w.3 told.2
          c.end_round.ensures.bound (ap (map g.R.Runner.pending) (suspended_is ∙ ap (λ ts. ts ++ c.in_ok-end.end.left) none_suspended))
          (unfinished_is ∙ (ap (λ rs. map (λ (r : Bor Request). r.now) rs ++ waiting_of (map (λ (r : Bor Request). r.now) c.as_slice-2.result.now) lines) none_waiting ∙ ap (λ (rs : List Request). waiting_of rs lines) slice_is)) c.end_round.ensures.point
          (panicked_is ∙ ap (λ (b : Bool). is_panic c.args.failmode && b) (sym (trees_items g.R.Runner.pending c.in_ok-end.end.left))) tally_is text_is,
      told.1,
      wrote,
    )))

pub returns-clause-cut : goal.returns-clause-cut
returns-clause-cut g c =
    let f : SeenFold = fold_seen g.R.Runner.pending c.args.fold.now in
    let s : Standing = g.R.Runner.standing c.args.runner.now in
    let trees_are : map g.R.Runner.pending c.replace-trees.result ≡ f.suspended = ap (map g.R.Runner.pending) c.replace-trees.ensures.value in
    let requests_are : map (λ (r : Bor Request). r.now) c.as_slice.result.now ≡ f.unfinished =
    ap (map (λ (r : Bor Request). r.now)) (c.as_slice.ensures.value ∙ ap (λ v. v.items) c.replace-requests.ensures.value) in
    let old : Journal = (g.J.Records.seen c.args.journal.now) in
    let new : Journal = (g.J.Records.seen c.run_suspended.new.journal) in
    let lines : List ReportLine = c.in_ok-end.end.lines in
    let left : List (List Pending) = map g.R.Runner.pending c.in_ok-end.end.left in
    let w : ClearRan s (g.R.Runner.standing c.run_suspended.new.runner) (g.R.Runner.tells c.args.runner.now) (g.R.Runner.tells c.run_suspended.new.runner) c.args.failmode f.point f.bound c.run_suspended.new.bound old new lines left f.suspended f.unfinished =
    clear_moved s (g.R.Runner.standing c.run_suspended.new.runner) (g.R.Runner.tells c.args.runner.now) (g.R.Runner.tells c.run_suspended.new.runner) c.args.failmode f.point f.bound c.run_suspended.new.bound old new lines left
    (map g.R.Runner.pending c.replace-trees.result) f.suspended (map (λ (r : Bor Request). r.now) c.as_slice.result.now) f.unfinished trees_are requests_are c.in_ok-end.ensures.ran in
    let places : List Choice = drop c.entries-places.result new.places in
    let done : List Completion = drop (length c.completions.result.now) new.completions in
    let text : List ℕ = round_text c.args.show.now (record { round = c.rounds.result; batch = None; point = f.point }) lines places done in
    let text_is : text ≡ round_text c.args.show.now (record { round = old.rounds + 1; batch = None; point = f.point }) lines w.0.entries w.0.completions =
    ap (λ (k : ℕ). round_text c.args.show.now (record { round = k; batch = None; point = f.point }) lines places done) (c.rounds.ensures ∙ w.1.journal.rounds)
    ∙ (ap (λ (cs : List Choice). round_text c.args.show.now (record { round = old.rounds + 1; batch = None; point = f.point }) lines cs done) (drop_own c.entries-places.result old.places new.places w.0.entries c.entries-places.ensures w.1.journal.places)
    ∙ ap (λ (cs : List Completion). round_text c.args.show.now (record { round = old.rounds + 1; batch = None; point = f.point }) lines w.0.entries cs)
    (drop_own (length c.completions.result.now) old.completions new.completions w.0.completions (ap length c.completions.ensures) (ends_alone old new f.unfinished w.0.completions w.1.journal.completions))) in
    by_fault c.end_round.result _
    (λ is. absurd (c.end_round.ensures.device is))
    (λ is n script before images ahead later printed rest mode orderly h tells.
    (let told = w.4 images tells in (
      told.0,
      printed ++ text,
      clear_cut c.args.show.now n script before s (g.R.Runner.standing c.run_suspended.new.runner) f ahead later old new images told.0 printed text w.0 lines left c.args.failmode c.run_suspended.new.bound rest
          g.R.Runner.fits old.rounds Sink tt w.3.stopped mode orderly h c.requires.steady w.1 w.2 w.3 told.2 text_is,
      told.1,
      part_written (g.O.Sink.holds c.args.out.now) (g.O.Sink.holds c.end_round.new.out) printed text (c.end_round.ensures.front is),
    )))
    (λ is n script before images ahead later printed rest mode orderly h tells.
    (let told = w.4 images tells in (
      told.0,
      printed ++ text,
      clear_cut c.args.show.now n script before s (g.R.Runner.standing c.run_suspended.new.runner) f ahead later old new images told.0 printed text w.0 lines left c.args.failmode c.run_suspended.new.bound rest
          g.R.Runner.fits old.rounds Memory tt w.3.stopped mode orderly h c.requires.steady w.1 w.2 w.3 told.2 text_is,
      told.1,
      subst (λ out. IsCutText Memory (g.O.Sink.holds c.args.out.now) (g.O.Sink.holds out) printed (printed ++ text)) (sym (c.end_round.ensures.memory is))
          (not_written (g.O.Sink.holds c.args.out.now) printed text (printed_ends _ _ _ _ _ _ _ _ _ _ _ _ h)),
    )))

pub returns-clause-few : goal.returns-clause-few
returns-clause-few g c =
    let f : SeenFold = fold_seen g.R.Runner.pending c.args.fold.now in
    let s : Standing = g.R.Runner.standing c.args.runner.now in
    let trees_are : map g.R.Runner.pending c.replace-trees.result ≡ f.suspended = ap (map g.R.Runner.pending) c.replace-trees.ensures.value in
    let requests_are : map (λ (r : Bor Request). r.now) c.as_slice.result.now ≡ f.unfinished =
    ap (map (λ (r : Bor Request). r.now)) (c.as_slice.ensures.value ∙ ap (λ v. v.items) c.replace-requests.ensures.value) in
    let old : Journal = (g.J.Records.seen c.args.journal.now) in
    let new : Journal = (g.J.Records.seen c.run_suspended.new.journal) in
    let lines : List ReportLine = c.in_ok-end.end.lines in
    let left : List (List Pending) = map g.R.Runner.pending c.in_ok-end.end.left in
    let w : ClearRan s (g.R.Runner.standing c.run_suspended.new.runner) (g.R.Runner.tells c.args.runner.now) (g.R.Runner.tells c.run_suspended.new.runner) c.args.failmode f.point f.bound c.run_suspended.new.bound old new lines left f.suspended f.unfinished =
    clear_moved s (g.R.Runner.standing c.run_suspended.new.runner) (g.R.Runner.tells c.args.runner.now) (g.R.Runner.tells c.run_suspended.new.runner) c.args.failmode f.point f.bound c.run_suspended.new.bound old new lines left
    (map g.R.Runner.pending c.replace-trees.result) f.suspended (map (λ (r : Bor Request). r.now) c.as_slice.result.now) f.unfinished trees_are requests_are c.in_ok-end.ensures.ran in
    let slice_is : map (λ (r : Bor Request). r.now) c.as_slice-2.result.now ≡ f.unfinished =
    ap (map (λ (r : Bor Request). r.now)) (c.as_slice-2.ensures.value ∙ ap (λ v. v.items) c.replace-requests.ensures.value) in
    let none_suspended : c.replace-trees.new.dest ≡ [] = c.replace-trees.ensures.after ∙ c.new-2.ensures in
    let none_waiting : c.replace-requests.new.dest.items ≡ [] = ap (λ v. v.items) c.replace-requests.ensures.after ∙ c.new.ensures.items in
    let same : length f.unfinished ≡ length lines = sym (ap length w.1.lines_are ∙ len_map _ f.unfinished) in
    when_ok c.end_round.result _ _ _ _ _ _ _ c.end_round.ensures.suspended c.end_round.ensures.unfinished c.end_round.ensures.tally c.end_round.ensures.panicked c.end_round.ensures.ok c.end_round.ensures.sums
    (λ suspended_is unfinished_is tally_is panicked_is wrote sums.
    (let few = few_told c.args.fold.now.tally c.end_round.new.fold.tally lines [] (map (λ (r : Bor Request). r.now) c.end_round.new.fold.unfinished.items) f.unfinished tally_is
    (unfinished_is ∙ (ap (λ rs. map (λ (r : Bor Request). r.now) rs ++ waiting_of (map (λ (r : Bor Request). r.now) c.as_slice-2.result.now) lines) none_waiting ∙ ap (λ (rs : List Request). waiting_of rs lines) slice_is)) same in
    let a = len_map (λ (r : Bor Request). r.now) c.args.fold.now.unfinished.items in
    let b = len_map (λ (r : Bor Request). r.now) c.end_round.new.fold.unfinished.items in omega arith))

pub returns-clause-steady : goal.returns-clause-steady
returns-clause-steady g c =
    let f : SeenFold = fold_seen g.R.Runner.pending c.args.fold.now in
    let s : Standing = g.R.Runner.standing c.args.runner.now in
    let trees_are : map g.R.Runner.pending c.replace-trees.result ≡ f.suspended = ap (map g.R.Runner.pending) c.replace-trees.ensures.value in
    let requests_are : map (λ (r : Bor Request). r.now) c.as_slice.result.now ≡ f.unfinished =
    ap (map (λ (r : Bor Request). r.now)) (c.as_slice.ensures.value ∙ ap (λ v. v.items) c.replace-requests.ensures.value) in
    let old : Journal = (g.J.Records.seen c.args.journal.now) in
    let new : Journal = (g.J.Records.seen c.run_suspended.new.journal) in
    let lines : List ReportLine = c.in_ok-end.end.lines in
    let left : List (List Pending) = map g.R.Runner.pending c.in_ok-end.end.left in
    let w : ClearRan s (g.R.Runner.standing c.run_suspended.new.runner) (g.R.Runner.tells c.args.runner.now) (g.R.Runner.tells c.run_suspended.new.runner) c.args.failmode f.point f.bound c.run_suspended.new.bound old new lines left f.suspended f.unfinished =
    clear_moved s (g.R.Runner.standing c.run_suspended.new.runner) (g.R.Runner.tells c.args.runner.now) (g.R.Runner.tells c.run_suspended.new.runner) c.args.failmode f.point f.bound c.run_suspended.new.bound old new lines left
    (map g.R.Runner.pending c.replace-trees.result) f.suspended (map (λ (r : Bor Request). r.now) c.as_slice.result.now) f.unfinished trees_are requests_are c.in_ok-end.ensures.ran in
    let slice_is : map (λ (r : Bor Request). r.now) c.as_slice-2.result.now ≡ f.unfinished =
    ap (map (λ (r : Bor Request). r.now)) (c.as_slice-2.ensures.value ∙ ap (λ v. v.items) c.replace-requests.ensures.value) in
    let none_suspended : c.replace-trees.new.dest ≡ [] = c.replace-trees.ensures.after ∙ c.new-2.ensures in
    let none_waiting : c.replace-requests.new.dest.items ≡ [] = ap (λ v. v.items) c.replace-requests.ensures.after ∙ c.new.ensures.items in
    when_ok c.end_round.result _ _ _ _ _ _ _ c.end_round.ensures.suspended c.end_round.ensures.unfinished c.end_round.ensures.tally c.end_round.ensures.awaited c.end_round.ensures.ok c.end_round.ensures.sums
    (λ suspended_is unfinished_is tally_is awaited_is wrote sums.
    clear_steady g.R.Runner.fits s (g.R.Runner.standing c.run_suspended.new.runner) old new f (fold_seen g.R.Runner.pending c.end_round.new.fold) w.0 lines left c.run_suspended.new.bound
    c.requires.steady w.1 w.2 w.3 c.in_ok-end.ensures.fits c.end_round.ensures.bound (ap (map g.R.Runner.pending) (suspended_is ∙ ap (λ ts. ts ++ c.in_ok-end.end.left) none_suspended))
    (unfinished_is ∙ (ap (λ rs. map (λ (r : Bor Request). r.now) rs ++ waiting_of (map (λ (r : Bor Request). r.now) c.as_slice-2.result.now) lines) none_waiting ∙ ap (λ (rs : List Request). waiting_of rs lines) slice_is))
    (λ name. awaited_is name ∙ (ap (λ (b : Bool). b || is_named_by (waiting_of (map (λ (r : Bor Request). r.now) c.as_slice-2.result.now) lines) name) (c.clear.ensures name)
    ∙ ap (λ (rs : List Request). is_named_by (waiting_of rs lines) name) slice_is)) sums)
