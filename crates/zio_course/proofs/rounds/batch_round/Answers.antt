use Rattle.std.proofs.Common.{◌≡◌, ℕ, ◌+◌, List, ◌++◌, length, map, drop, reverse, Bool, ◌&&◌, ◌||◌, Err, Bor, Some, refl, sym, ap, subst, ◌∙◌, arith}
use Rattle.zio_types.specs.declared.journal.Completion.{Completion}
use Rattle.zio_types.specs.declared.journal.Journal.{Journal}
use Rattle.zio_types.specs.Choices.{Choice}
use Rattle.zio_script.specs.declared.script.Item.{Item}
use Rattle.zio_script.specs.declared.script.Request.{Request}
use Rattle.zio_script.specs.Requests.{requests_of}
use Rattle.zio_gang.specs.Rounds.{trees_of}
use Rattle.zio_gang.specs.Runs.{has_trees, is_panic}
use Rattle.zio_report.specs.declared.report.ReportLine.{ReportLine}
use Rattle.zio_report.specs.declared.report.RunFault.TheVariants.{Sink, Memory}
use Rattle.zio_report.specs.Lines.{round_text}
use Rattle.zio_course.specs.declared.admission.Rules.{Rules}
use Rattle.zio_course.specs.Admissions.{IsAdmission, error_in}
use Rattle.zio_course.specs.Answered.{answered_in}
use Rattle.zio_course.specs.Faults.{fault_of}
use Rattle.zio_course.specs.Folds.{SeenFold, fold_seen, is_named_by, waiting_of}
use Rattle.zio_course.specs.Names.{is_name_in, is_some_name}
use Rattle.zio_course.specs.Runners.{Standing}
use Rattle.zio_course.specs.SoFar.{IsCutText}
use Rattle.zio_course.proofs.CutLemmas.{by_fault, cut_at, not_written, nothing_more, other_stop, part_written, printed_ends}
use Rattle.zio_course.proofs.JoinLemmas.{names_awaited, rising_both}
use Rattle.zio_course.proofs.ReadyLemmas.{batch_ready}
use Rattle.zio_course.proofs.RoundsLemmas.{batch_cut, batch_short, batch_steady, batch_told, by_stop, drop_own, few_told, len_map, map_two, trees_items, when_ok}
use Rattle.zio_course.proofs.RunnableLemmas.{batch_runnable}
use Rattle.zio_course.proofs.rounds.batch_round.Goals as goal

pub returns-in_err-requests-clause-cut : goal.returns-in_err-requests-clause-cut
returns-in_err-requests-clause-cut g c =
    by_stop c.from_residual.result c.in_err-requests.field-0.0 _ c.from_residual.ensures.1
    (λ n script before images ahead later printed rest mode orderly h tells. (
      images,
      printed,
      cut_at _ _ _ _ _ _ _ _ _ _ _ _ (fault_of c.in_err-requests.field-0.0) (other_stop c.in_err-requests.field-0.0 (λ is. c.in_err-requests.ensures.err (ap (λ x. Err x) is))) c.requires.steady.runs h,
      tells,
      nothing_more (fault_of c.in_err-requests.field-0.0) (g.O.Sink.holds c.args.out.now) printed (printed_ends _ _ _ _ _ _ _ _ _ _ _ _ h),
    ))

pub admit-requires : goal.admit-requires
admit-requires g c = record { rising = (rising_both _ _ c.requires.rising).1 }

pub returns-in_err-admission-clause-cut : goal.returns-in_err-admission-clause-cut
returns-in_err-admission-clause-cut g c =
    by_stop c.from_residual-in_err-admission.result c.in_err-admission.field-0.0 _ c.from_residual-in_err-admission.ensures.1
    (λ n script before images ahead later printed rest mode orderly h tells. (
      images,
      printed,
      cut_at _ _ _ _ _ _ _ _ _ _ _ _ (fault_of c.in_err-admission.field-0.0) (other_stop c.in_err-admission.field-0.0 (λ is. c.in_err-admission.ensures.err (ap (λ x. Err x) is))) c.requires.steady.runs h,
      tells,
      nothing_more (fault_of c.in_err-admission.field-0.0) (g.O.Sink.holds c.args.out.now) printed (printed_ends _ _ _ _ _ _ _ _ _ _ _ _ h),
    ))

pub run_batch-requires-clause-rising : goal.run_batch-requires-clause-rising
run_batch-requires-clause-rising g c = (rising_both _ _ c.requires.rising).1

pub run_batch-requires-clause-ready : goal.run_batch-requires-clause-ready
run_batch-requires-clause-ready g c =
    let f : SeenFold = fold_seen g.R.Runner.pending c.args.fold.now in
    let slots : List (ℕ × ℕ) = c.in_ok-admission.admission.slots.entries in
    let rules : List Rules = c.in_ok-admission.admission.rules.items in
    let items : List Item = c.args.batch.now.lines.now in
    let admission_is : IsAdmission (has_trees f.suspended) (is_name_in f.awaited) (is_some_name f.bound) (trees_of (requests_of items)) slots rules =
    subst (λ (b : Bool). IsAdmission b (is_name_in f.awaited) (is_some_name f.bound) (trees_of (requests_of items)) slots rules) (sym (trees_items g.R.Runner.pending c.args.fold.now.suspended)) c.in_ok-admission.ensures.ok in
    batch_ready _ f.suspended (is_name_in f.awaited) f.bound c.args.batch.now.number items slots rules c.requires.number (rising_both _ _ c.requires.rising).1 c.requires.orderly
    (names_awaited f.suspended f.unfinished (is_name_in f.awaited) c.requires.steady.waits.numbers c.requires.steady.awaited) admission_is

pub run_batch-requires-clause-trees : goal.run_batch-requires-clause-trees
run_batch-requires-clause-trees g c =
    let f : SeenFold = fold_seen g.R.Runner.pending c.args.fold.now in
    let s : Standing = g.R.Runner.standing c.args.runner.now in
    let slots : List (ℕ × ℕ) = c.in_ok-admission.admission.slots.entries in
    let rules : List Rules = c.in_ok-admission.admission.rules.items in
    let items : List Item = c.args.batch.now.lines.now in
    let admission_is : IsAdmission (has_trees f.suspended) (is_name_in f.awaited) (is_some_name f.bound) (trees_of (requests_of items)) slots rules =
    subst (λ (b : Bool). IsAdmission b (is_name_in f.awaited) (is_some_name f.bound) (trees_of (requests_of items)) slots rules) (sym (trees_items g.R.Runner.pending c.args.fold.now.suspended)) c.in_ok-admission.ensures.ok in
    batch_runnable s _ f.suspended (is_name_in f.awaited) f.bound c.args.batch.now.number items slots rules refl (rising_both _ _ c.requires.rising).1 c.requires.orderly
    (names_awaited f.suspended f.unfinished (is_name_in f.awaited) c.requires.steady.waits.numbers c.requires.steady.awaited) admission_is c.requires.steady.live

pub returns-in_err-end-clause-cut : goal.returns-in_err-end-clause-cut
returns-in_err-end-clause-cut g c =
    let f : SeenFold = fold_seen g.R.Runner.pending c.args.fold.now in
    let s : Standing = g.R.Runner.standing c.args.runner.now in
    let slots : List (ℕ × ℕ) = c.in_ok-admission.admission.slots.entries in
    let rules : List Rules = c.in_ok-admission.admission.rules.items in
    let items : List Item = c.args.batch.now.lines.now in
    let admission_is : IsAdmission (has_trees f.suspended) (is_name_in f.awaited) (is_some_name f.bound) (trees_of (requests_of items)) slots rules =
    subst (λ (b : Bool). IsAdmission b (is_name_in f.awaited) (is_some_name f.bound) (trees_of (requests_of items)) slots rules) (sym (trees_items g.R.Runner.pending c.args.fold.now.suspended)) c.in_ok-admission.ensures.ok in
    by_stop c.from_residual-in_err-end.result c.in_err-end.field-0.0 _ c.from_residual-in_err-end.ensures.1
    (λ n script before images ahead later printed rest mode orderly h tells.
    (let short = c.in_err-end.ensures.cut images tells in
    let cut = batch_short c.args.show.now n script before s (g.R.Runner.standing c.run_batch.new.runner) f ahead later (g.J.Records.seen c.args.journal.now) (g.J.Records.seen c.run_batch.new.journal) images short.0 printed items c.args.batch.now.number slots rules c.args.failmode rest
    g.R.Runner.fits (g.J.Records.seen c.args.journal.now).rounds c.in_err-end.field-0.0 (g.O.Sink.holds c.args.out.now) mode orderly h c.requires.steady c.requires.orderly admission_is (rising_both _ _ c.requires.rising).1 short.2 in
    (short.0, cut.0, cut.1, short.1, cut.2)))

pub returns-clause-ran : goal.returns-clause-ran
returns-clause-ran g c =
    let f : SeenFold = fold_seen g.R.Runner.pending c.args.fold.now in
    let s : Standing = g.R.Runner.standing c.args.runner.now in
    let slots : List (ℕ × ℕ) = c.in_ok-admission.admission.slots.entries in
    let rules : List Rules = c.in_ok-admission.admission.rules.items in
    let items : List Item = c.args.batch.now.lines.now in
    let number : ℕ = c.args.batch.now.number in
    let admission_is : IsAdmission (has_trees f.suspended) (is_name_in f.awaited) (is_some_name f.bound) (trees_of (requests_of items)) slots rules =
    subst (λ (b : Bool). IsAdmission b (is_name_in f.awaited) (is_some_name f.bound) (trees_of (requests_of items)) slots rules) (sym (trees_items g.R.Runner.pending c.args.fold.now.suspended)) c.in_ok-admission.ensures.ok in
    let w = c.in_ok-end.ensures.ran in
    let old : Journal = (g.J.Records.seen c.args.journal.now) in
    let new : Journal = (g.J.Records.seen c.run_batch.new.journal) in
    let lines : List ReportLine = c.in_ok-end.end.lines in
    let places : List Choice = drop c.entries-places.result new.places in
    let done : List Completion = drop (length c.completions.result.now) new.completions in
    let ends : List Completion = reverse (answered_in (error_in slots rules) (old.rounds + 1) (requests_of items)) ++ w.0.completions in
    let text : List ℕ = round_text c.args.show.now (record { round = c.rounds.result; batch = Some number; point = f.point }) lines places done in
    let text_is : text ≡ round_text c.args.show.now (record { round = old.rounds + 1; batch = Some number; point = f.point }) lines w.0.entries ends =
    ap (λ (k : ℕ). round_text c.args.show.now (record { round = k; batch = Some number; point = f.point }) lines places done) (c.rounds.ensures ∙ w.1.journal.rounds)
    ∙ (ap (λ (cs : List Choice). round_text c.args.show.now (record { round = old.rounds + 1; batch = Some number; point = f.point }) lines cs done) (drop_own c.entries-places.result old.places new.places w.0.entries c.entries-places.ensures w.1.journal.places)
    ∙ ap (λ (cs : List Completion). round_text c.args.show.now (record { round = old.rounds + 1; batch = Some number; point = f.point }) lines w.0.entries cs) (drop_own (length c.completions.result.now) old.completions new.completions ends (ap length c.completions.ensures) w.1.journal.completions)) in
    let slice_is : map (λ (r : Bor Request). r.now) c.as_slice.result.now ≡ requests_of items = ap (map (λ (r : Bor Request). r.now)) c.as_slice.ensures.value ∙ c.in_ok-requests.ensures.ok in
    when_ok c.end_round.result _ _ _ _ _ _ _ c.end_round.ensures.suspended c.end_round.ensures.unfinished c.end_round.ensures.tally c.end_round.ensures.panicked c.end_round.ensures.ok c.end_round.ensures.sums
    (λ suspended_is unfinished_is tally_is panicked_is wrote sums n script before images ahead later printed rest mode orderly h tells.
    (let told = w.4 images tells in (
      told.0,
      text,
      batch_told c.args.show.now n script before s (g.R.Runner.standing c.run_batch.new.runner) f (fold_seen g.R.Runner.pending c.end_round.new.fold) ahead later old new images told.0 printed text items number slots rules w.0 lines
          (map g.R.Runner.pending c.in_ok-end.end.left) c.args.failmode c.run_batch.new.bound rest g.R.Runner.fits old.rounds mode orderly h c.requires.steady c.requires.orderly admission_is w.1 w.2 w.3 told.2
          c.end_round.ensures.bound (ap (map g.R.Runner.pending) suspended_is ∙ map_two g.R.Runner.pending c.args.fold.now.suspended c.in_ok-end.end.left)
          (unfinished_is ∙ ap (λ (rs : List Request). f.unfinished ++ waiting_of rs lines) slice_is) c.end_round.ensures.point
          (panicked_is ∙ ap (λ (b : Bool). is_panic c.args.failmode && b) (sym (trees_items g.R.Runner.pending c.in_ok-end.end.left))) tally_is text_is,
      told.1,
      wrote,
    )))

pub returns-clause-cut : goal.returns-clause-cut
returns-clause-cut g c =
    let f : SeenFold = fold_seen g.R.Runner.pending c.args.fold.now in
    let s : Standing = g.R.Runner.standing c.args.runner.now in
    let slots : List (ℕ × ℕ) = c.in_ok-admission.admission.slots.entries in
    let rules : List Rules = c.in_ok-admission.admission.rules.items in
    let items : List Item = c.args.batch.now.lines.now in
    let number : ℕ = c.args.batch.now.number in
    let admission_is : IsAdmission (has_trees f.suspended) (is_name_in f.awaited) (is_some_name f.bound) (trees_of (requests_of items)) slots rules =
    subst (λ (b : Bool). IsAdmission b (is_name_in f.awaited) (is_some_name f.bound) (trees_of (requests_of items)) slots rules) (sym (trees_items g.R.Runner.pending c.args.fold.now.suspended)) c.in_ok-admission.ensures.ok in
    let w = c.in_ok-end.ensures.ran in
    let old : Journal = (g.J.Records.seen c.args.journal.now) in
    let new : Journal = (g.J.Records.seen c.run_batch.new.journal) in
    let lines : List ReportLine = c.in_ok-end.end.lines in
    let places : List Choice = drop c.entries-places.result new.places in
    let done : List Completion = drop (length c.completions.result.now) new.completions in
    let ends : List Completion = reverse (answered_in (error_in slots rules) (old.rounds + 1) (requests_of items)) ++ w.0.completions in
    let text : List ℕ = round_text c.args.show.now (record { round = c.rounds.result; batch = Some number; point = f.point }) lines places done in
    let text_is : text ≡ round_text c.args.show.now (record { round = old.rounds + 1; batch = Some number; point = f.point }) lines w.0.entries ends =
    ap (λ (k : ℕ). round_text c.args.show.now (record { round = k; batch = Some number; point = f.point }) lines places done) (c.rounds.ensures ∙ w.1.journal.rounds)
    ∙ (ap (λ (cs : List Choice). round_text c.args.show.now (record { round = old.rounds + 1; batch = Some number; point = f.point }) lines cs done) (drop_own c.entries-places.result old.places new.places w.0.entries c.entries-places.ensures w.1.journal.places)
    ∙ ap (λ (cs : List Completion). round_text c.args.show.now (record { round = old.rounds + 1; batch = Some number; point = f.point }) lines w.0.entries cs) (drop_own (length c.completions.result.now) old.completions new.completions ends (ap length c.completions.ensures) w.1.journal.completions)) in
    by_fault c.end_round.result _
    (λ is. absurd (c.end_round.ensures.device is))
    (λ is n script before images ahead later printed rest mode orderly h tells.
    (let told = w.4 images tells in (
      told.0,
      printed ++ text,
      batch_cut c.args.show.now n script before s (g.R.Runner.standing c.run_batch.new.runner) f ahead later old new images told.0 printed text items number slots rules w.0 lines (map g.R.Runner.pending c.in_ok-end.end.left) c.args.failmode c.run_batch.new.bound rest
          g.R.Runner.fits old.rounds Sink tt w.3.stopped mode orderly h c.requires.steady c.requires.orderly admission_is w.1 w.2 w.3 told.2 text_is,
      told.1,
      part_written (g.O.Sink.holds c.args.out.now) (g.O.Sink.holds c.end_round.new.out) printed text (c.end_round.ensures.front is),
    )))
    (λ is n script before images ahead later printed rest mode orderly h tells.
    (let told = w.4 images tells in (
      told.0,
      printed ++ text,
      batch_cut c.args.show.now n script before s (g.R.Runner.standing c.run_batch.new.runner) f ahead later old new images told.0 printed text items number slots rules w.0 lines (map g.R.Runner.pending c.in_ok-end.end.left) c.args.failmode c.run_batch.new.bound rest
          g.R.Runner.fits old.rounds Memory tt w.3.stopped mode orderly h c.requires.steady c.requires.orderly admission_is w.1 w.2 w.3 told.2 text_is,
      told.1,
      subst (λ out. IsCutText Memory (g.O.Sink.holds c.args.out.now) (g.O.Sink.holds out) printed (printed ++ text)) (sym (c.end_round.ensures.memory is))
          (not_written (g.O.Sink.holds c.args.out.now) printed text (printed_ends _ _ _ _ _ _ _ _ _ _ _ _ h)),
    )))

pub returns-clause-few : goal.returns-clause-few
returns-clause-few g c =
    let requests : List Request = requests_of c.args.batch.now.lines.now in
    let w = c.in_ok-end.ensures.ran in
    let lines : List ReportLine = c.in_ok-end.end.lines in
    let slice_is : map (λ (r : Bor Request). r.now) c.as_slice.result.now ≡ requests = ap (map (λ (r : Bor Request). r.now)) c.as_slice.ensures.value ∙ c.in_ok-requests.ensures.ok in
    let same : length requests ≡ length lines = sym (ap length w.1.lines_are ∙ len_map _ requests) in
    when_ok c.end_round.result _ _ _ _ _ _ _ c.end_round.ensures.suspended c.end_round.ensures.unfinished c.end_round.ensures.tally c.end_round.ensures.panicked c.end_round.ensures.ok c.end_round.ensures.sums
    (λ suspended_is unfinished_is tally_is panicked_is wrote sums.
    (let few = few_told c.args.fold.now.tally c.end_round.new.fold.tally lines (map (λ (r : Bor Request). r.now) c.args.fold.now.unfinished.items) (map (λ (r : Bor Request). r.now) c.end_round.new.fold.unfinished.items) requests tally_is
    (unfinished_is ∙ ap (λ (rs : List Request). map (λ (r : Bor Request). r.now) c.args.fold.now.unfinished.items ++ waiting_of rs lines) slice_is) same in
    let a = len_map (λ (r : Bor Request). r.now) c.args.fold.now.unfinished.items in
    let b = len_map (λ (r : Bor Request). r.now) c.end_round.new.fold.unfinished.items in omega arith))

pub returns-clause-steady : goal.returns-clause-steady
returns-clause-steady g c =
    let f : SeenFold = fold_seen g.R.Runner.pending c.args.fold.now in
    let s : Standing = g.R.Runner.standing c.args.runner.now in
    let slots : List (ℕ × ℕ) = c.in_ok-admission.admission.slots.entries in
    let rules : List Rules = c.in_ok-admission.admission.rules.items in
    let items : List Item = c.args.batch.now.lines.now in
    let admission_is : IsAdmission (has_trees f.suspended) (is_name_in f.awaited) (is_some_name f.bound) (trees_of (requests_of items)) slots rules =
    subst (λ (b : Bool). IsAdmission b (is_name_in f.awaited) (is_some_name f.bound) (trees_of (requests_of items)) slots rules) (sym (trees_items g.R.Runner.pending c.args.fold.now.suspended)) c.in_ok-admission.ensures.ok in
    let w = c.in_ok-end.ensures.ran in
    let lines : List ReportLine = c.in_ok-end.end.lines in
    let slice_is : map (λ (r : Bor Request). r.now) c.as_slice.result.now ≡ requests_of items = ap (map (λ (r : Bor Request). r.now)) c.as_slice.ensures.value ∙ c.in_ok-requests.ensures.ok in
    when_ok c.end_round.result _ _ _ _ _ _ _ c.end_round.ensures.suspended c.end_round.ensures.unfinished c.end_round.ensures.tally c.end_round.ensures.awaited c.end_round.ensures.ok c.end_round.ensures.sums
    (λ suspended_is unfinished_is tally_is awaited_is wrote sums.
    batch_steady g.R.Runner.fits s (g.R.Runner.standing c.run_batch.new.runner) (g.J.Records.seen c.args.journal.now) (g.J.Records.seen c.run_batch.new.journal) f (fold_seen g.R.Runner.pending c.end_round.new.fold) items c.args.batch.now.number slots rules w.0 lines
    (map g.R.Runner.pending c.in_ok-end.end.left) c.run_batch.new.bound c.requires.steady c.requires.rising c.requires.orderly admission_is w.1 w.2 w.3 c.in_ok-end.ensures.fits c.end_round.ensures.bound
    (ap (map g.R.Runner.pending) suspended_is ∙ map_two g.R.Runner.pending c.args.fold.now.suspended c.in_ok-end.end.left)
    (unfinished_is ∙ ap (λ (rs : List Request). f.unfinished ++ waiting_of rs lines) slice_is)
    (λ name. awaited_is name ∙ ap (λ (rs : List Request). is_name_in f.awaited name || is_named_by (waiting_of rs lines) name) slice_is) sums)
