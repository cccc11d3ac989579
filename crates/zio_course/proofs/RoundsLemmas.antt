-- Rounds of a run as the calls answer them: what is told after them, and where they are cut short.
use Rattle.std.proofs.Common.{◌≡◌, ℕ, suc, ◌+◌, ◌≤◌, List, [], ◌∷◌, ◌++◌, length, map, drop, filter, reverse, Bool, ◌&&◌, Option, Some, None, refl, sym, ap, ◌∙◌, subst, inl, inr, ◌*◌, ◌^◌, ◌||◌, length-append, arith, Result, Ok, Err, false, ◌⊎◌}
use Rattle.std.specs.Prelude.{Contains, IfErr, IfSome, IsErrAnd, IsTrue, OnOk}
use Rattle.std.specs.List.{AllByRecursion}
use Rattle.zio_types.specs.declared.error.Errno.{Errno}
use Rattle.zio_types.specs.declared.journal.Completion.{Completion}
use Rattle.zio_types.specs.declared.journal.Journal.{Journal}
use Rattle.zio_types.specs.declared.place.Place.{Place}
use Rattle.zio_types.specs.declared.place.Top.{Top}
use Rattle.zio_types.specs.Places.{is_inside}
use Rattle.zio_script.specs.declared.script.Failmode.{Failmode}
use Rattle.zio_script.specs.declared.script.Item.{Item}
use Rattle.zio_script.specs.declared.script.Request.{Request}
use Rattle.zio_script.specs.declared.script.Script.{Script}
use Rattle.zio_script.specs.Accepted.{AreRising, IsOrderlyBatch}
use Rattle.zio_script.specs.Requests.{requests_of}
use Rattle.zio_cksum.specs.Images.{Images}
use Rattle.zio_gang.specs.declared.tree.Tree.{Tree}
use Rattle.zio_gang.specs.Attempts.{Pending}
use Rattle.zio_gang.specs.Rounds.{Bound, bound_after, pending_trees, trees_of}
use Rattle.zio_gang.specs.Runs.{Course, Plan, State, has_trees, is_panic, run_batch, run_suspended, then_course}
use Rattle.zio_gang.specs.Trees.{sizes_of}
use Rattle.zio_report.specs.declared.report.ReportLine.{ReportLine}
use Rattle.zio_report.specs.declared.report.RunFault.{RunFault}
use Rattle.zio_report.specs.declared.report.RunFault.TheVariants.{Memory}
use Rattle.zio_report.specs.declared.report.Show.{Show}
use Rattle.zio_report.specs.Lines.{round_text}
use Rattle.zio_report.specs.Reports.{RunSize}
use Rattle.zio_course.specs.declared.admission.Rules.{Rules}
use Rattle.zio_course.specs.declared.fold.Tally.{Tally}
use Rattle.zio_course.specs.declared.runner.Stop.{Stop}
use Rattle.zio_course.specs.declared.runner.Stop.TheVariants.{Device as DeviceStops, Memory as NoMemory}
use Rattle.zio_course.specs.Admissions.{IsAdmission, error_in}
use Rattle.zio_course.specs.Answered.{answered_in}
use Rattle.zio_course.specs.Entered.{IsBatchRun, IsCutShort, IsEntered}
use Rattle.zio_course.specs.Faults.{fault_of}
use Rattle.zio_course.specs.Folds.{AreSuspended, IsSteady, SeenFold, counted_in, has_items, is_named_by, waiting_of}
use Rattle.zio_course.specs.Forests.{names_of, running}
use Rattle.zio_course.specs.Names.{is_name_in, is_some_name, named_in}
use Rattle.zio_course.specs.Runners.{IsRound, IsRoundEnd, SeenEnd, Standing, StandsAfter, Stopping, freed_places, made_places, rows_tell_apart, terms_at}
use Rattle.zio_course.specs.SoFar.{Ahead, IsCourseAt, IsCut, IsCutText}
use Rattle.zio_course.specs.Told.{ended_told, line_told, no_error}
use Rattle.zio_course.proofs.ApartLemmas.{one_passing}
use Rattle.zio_course.proofs.DoneLemmas.{contains_one}
use Rattle.zio_course.proofs.CutLemmas.{IsOther, batch_goes_on, clear_goes_on, cut_at, cut_in, named_pair, not_written, nothing_more, pairs_of, printed_ends}
use Rattle.zio_course.proofs.FoldLemmas.{named_both}
use Rattle.zio_course.proofs.JoinLemmas.{batch_suspended, clear_suspended, names_awaited, rising_both}
use Rattle.zio_course.proofs.LiveLemmas.{live_after}
use Rattle.zio_course.proofs.OverLemmas.{batch_over}
use Rattle.zio_course.proofs.TallyLemmas.{bad_line, good_line, line_counts, waits_and_counts}
use Rattle.zio_gang.proofs.FateLemmas.{tally}
use Rattle.zio_course.specs.Live.{IsLive}
use Rattle.zio_faults.specs.declared.table.Row.{Row}
use Rattle.zio_course.proofs.NextLemmas.{batch_next, clear_next}
use Rattle.zio_course.proofs.SuspendedLemmas.{none_answered}
use Rattle.zio_course.proofs.WaitLemmas.{is_left, waiting_told}

pub drop_own : {X : Type 0} (n : ℕ) (old new more : List X) → n ≡ length old → new ≡ old ++ more → drop n new ≡ more
drop_own n old new more count is = ap (λ (k : ℕ). drop k new) count ∙ (ap (drop (length old)) is ∙ go old)
  where
    go : (xs : List _) → drop (length xs) (xs ++ more) ≡ more
    go [] = refl
    go (x ∷ xs) = go xs

pub trees_items : {T : Type 0} (pending : T → List Pending) (ts : List T) → has_trees (map pending ts) ≡ has_items ts
trees_items pending [] = refl
trees_items pending (t ∷ ts) = refl

-- ---- answers

pub by_stop : (r : Result Unit RunFault) (stop : Stop) (P : RunFault → Type 0) → IsErrAnd r (λ e. e ≡ fault_of stop) → P (fault_of stop) → IfErr r P
by_stop (Ok x) stop P is h = tt
by_stop (Err e) stop P is h = subst P (sym is) h

pub when_ok : (r : Result Unit RunFault) (A B C D E F G : Type 0) → OnOk r A → OnOk r B → OnOk r C → OnOk r D → OnOk r E → OnOk r F → (A → B → C → D → E → F → G) → OnOk r G
when_ok (Ok x) A B C D E F G a b c d e f k = k a b c d e f
when_ok (Err x) A B C D E F G a b c d e f k = tt

-- ---- the round of a batch

pub batch_told : (show : Show) (n : RunSize) (script : Script) (before : Images) (s now : Standing) (f g : SeenFold) (ahead : Ahead) (later : List (List Request)) (old new : Journal) (images after : Images) (printed text : List ℕ)
    (items : List Item) (number : ℕ) (slots : List (ℕ × ℕ)) (rules : List Rules) (end : SeenEnd) (lines : List ReportLine) (left : List (List Pending)) (failmode : Failmode) (made : List (List ℕ × Tree)) (rest : Plan → State → Course) (fits : Tree → Type 0) (rounds : ℕ)
    → script.failmode ≡ failmode → AllByRecursion (IsOrderlyBatch (rows_tell_apart s.rows)) later
    → IsCourseAt show n script before s f ahead (requests_of items ∷ later) old images printed (λ plan st. then_course (run_batch plan (record { number = number; requests = requests_of items }) st) (rest plan))
    → IsSteady fits s rounds f → IsOrderlyBatch (rows_tell_apart s.rows) (requests_of items)
    → IsAdmission (has_trees f.suspended) (is_name_in f.awaited) (is_some_name f.bound) (trees_of (requests_of items)) slots rules
    → IsBatchRun (error_in slots rules) (requests_of items) f.bound made old new end lines left
    → IsRoundEnd s (old.rounds + 1) (pending_trees (names_of f.bound) number (trees_of (running slots rules items))) end
    → StandsAfter s now (old.rounds + 1) (pending_trees (names_of f.bound) number (trees_of (running slots rules items))) end
    → IsRound (terms_at s failmode (old.rounds + 1) f.point) (pending_trees (names_of f.bound) number (trees_of (running slots rules items))) images after end
    → g.bound ≡ made → g.suspended ≡ f.suspended ++ left → g.unfinished ≡ f.unfinished ++ waiting_of (requests_of items) lines
    → g.point ≡ f.point → g.panicked ≡ (is_panic failmode && has_trees left) → g.tally ≡ counted_in lines f.tally
    → text ≡ round_text show (record { round = old.rounds + 1; batch = Some number; point = f.point }) lines end.entries (reverse (answered_in (error_in slots rules) (old.rounds + 1) (requests_of items)) ++ end.completions)
    → IsCourseAt show n script before now g ahead later new after (printed ++ text) rest
batch_told show n script before s now f g ahead later old new images after printed text items number slots rules end lines left failmode made rest fits rounds mode orderly_later h steady orderly admission_is ran over stands round_is bound_is suspended_is unfinished_is point_is panicked_is tally_is text_is =
    let error : ℕ → Option Errno = error_in slots rules in
    let left_is : left ≡ end.left = ran.journal.left_is in
    let ran_now : IsBatchRun error (requests_of items) f.bound g.bound old new end lines end.left =
    subst (λ (b : List (List ℕ × Tree)). IsBatchRun error (requests_of items) f.bound b old new end lines end.left) (sym bound_is)
    (subst (λ (l : List (List Pending)). IsBatchRun error (requests_of items) f.bound made old new end lines l) left_is ran) in
    subst (λ (t : List ℕ). IsCourseAt show n script before now g ahead later new after (printed ++ t) rest) (sym text_is)
    (batch_next show n script before s now f g ahead later old new images after printed items number (is_name_in f.awaited) slots rules end lines rest h.up orderly_later h steady.waits steady.live
    (names_awaited f.suspended f.unfinished (is_name_in f.awaited) steady.waits.numbers steady.awaited) orderly admission_is ran_now over stands
    (subst (λ (mode_now : Failmode). IsRound (terms_at s mode_now (old.rounds + 1) f.point) (pending_trees (names_of f.bound) number (trees_of (running slots rules items))) images after end) (sym mode) round_is)
    (suspended_is ∙ ap (λ (l : List (List Pending)). f.suspended ++ l) left_is)
    (unfinished_is ∙ ap (λ (rs : List Request). f.unfinished ++ rs) (ap (waiting_of (requests_of items)) ran.lines_are ∙ waiting_told error end.finished (requests_of items)))
    point_is (panicked_is ∙ (ap (λ (m : Failmode). is_panic m && has_trees left) (sym mode) ∙ ap (λ (l : List (List Pending)). is_panic script.failmode && has_trees l) left_is)) tally_is)

-- the round is whole, and its text was not
pub batch_cut : {w : Stopping} → (show : Show) (n : RunSize) (script : Script) (before : Images) (s now : Standing) (f : SeenFold) (ahead : Ahead) (later : List (List Request)) (old new : Journal) (images after : Images) (printed text : List ℕ)
    (items : List Item) (number : ℕ) (slots : List (ℕ × ℕ)) (rules : List Rules) (end : SeenEnd) (lines : List ReportLine) (left : List (List Pending)) (failmode : Failmode) (made : List (List ℕ × Tree)) (rest : Plan → State → Course) (fits : Tree → Type 0) (rounds : ℕ) (fault : RunFault)
    → IsOther fault → w.stopped ≡ false → script.failmode ≡ failmode → AllByRecursion (IsOrderlyBatch (rows_tell_apart s.rows)) later
    → IsCourseAt show n script before s f ahead (requests_of items ∷ later) old images printed (λ plan st. then_course (run_batch plan (record { number = number; requests = requests_of items }) st) (rest plan))
    → IsSteady fits s rounds f → IsOrderlyBatch (rows_tell_apart s.rows) (requests_of items)
    → IsAdmission (has_trees f.suspended) (is_name_in f.awaited) (is_some_name f.bound) (trees_of (requests_of items)) slots rules
    → IsBatchRun (error_in slots rules) (requests_of items) f.bound made old new end lines left
    → IsRoundEnd s (old.rounds + 1) (pending_trees (names_of f.bound) number (trees_of (running slots rules items))) end
    → StandsAfter s now (old.rounds + 1) (pending_trees (names_of f.bound) number (trees_of (running slots rules items))) end
    → IsRound (terms_at s failmode (old.rounds + 1) f.point) (pending_trees (names_of f.bound) number (trees_of (running slots rules items))) images after end
    → text ≡ round_text show (record { round = old.rounds + 1; batch = Some number; point = f.point }) lines end.entries (reverse (answered_in (error_in slots rules) (old.rounds + 1) (requests_of items)) ++ end.completions)
    → IsCut show n script before s.tops w fault new after (printed ++ text)
batch_cut {w = w} show n script before s now f ahead later old new images after printed text items number slots rules end lines left failmode made rest fits rounds fault other calm mode orderly_later h steady orderly admission_is ran over stands round_is text_is =
    let none : List (List ℕ) = [] in
    let g : SeenFold = record {
      bound = made;
      suspended = f.suspended ++ left;
      unfinished = f.unfinished ++ waiting_of (requests_of items) lines;
      awaited = none;
      point = f.point;
      panicked = is_panic failmode && has_trees left;
      tally = counted_in lines f.tally;
    } in
    subst (λ (tops : List _). IsCut show n script before tops w fault new after (printed ++ text)) stands.tops
    (cut_at show n script before now g ahead later new after (printed ++ text) rest fault other calm
    (batch_told show n script before s now f g ahead later old new images after printed text items number slots rules end lines left failmode made rest fits rounds mode orderly_later h steady orderly admission_is ran over stands round_is
    refl refl refl refl refl refl text_is))

-- the same where its lines and names were not told
pub batch_untold : {w : Stopping} → (show : Show) (n : RunSize) (script : Script) (before : Images) (s now : Standing) (f : SeenFold) (ahead : Ahead) (later : List (List Request)) (old new : Journal) (images after : Images) (printed : List ℕ)
    (items : List Item) (number : ℕ) (slots : List (ℕ × ℕ)) (rules : List Rules) (end : SeenEnd) (failmode : Failmode) (rest : Plan → State → Course) (fits : Tree → Type 0) (rounds : ℕ) (fault : RunFault)
    → IsOther fault → w.stopped ≡ false → script.failmode ≡ failmode → AllByRecursion (IsOrderlyBatch (rows_tell_apart s.rows)) later
    → IsCourseAt show n script before s f ahead (requests_of items ∷ later) old images printed (λ plan st. then_course (run_batch plan (record { number = number; requests = requests_of items }) st) (rest plan))
    → IsSteady fits s rounds f → IsOrderlyBatch (rows_tell_apart s.rows) (requests_of items)
    → IsAdmission (has_trees f.suspended) (is_name_in f.awaited) (is_some_name f.bound) (trees_of (requests_of items)) slots rules
    → IsEntered (reverse (answered_in (error_in slots rules) (old.rounds + 1) (requests_of items))) old new end end.finished end.left
    → IsRoundEnd s (old.rounds + 1) (pending_trees (names_of f.bound) number (trees_of (running slots rules items))) end
    → StandsAfter s now (old.rounds + 1) (pending_trees (names_of f.bound) number (trees_of (running slots rules items))) end
    → IsRound (terms_at s failmode (old.rounds + 1) f.point) (pending_trees (names_of f.bound) number (trees_of (running slots rules items))) images after end
    → (text : List ℕ) × IsCut show n script before s.tops w fault new after (printed ++ text)
batch_untold {w = w} show n script before s now f ahead later old new images after printed items number slots rules end failmode rest fits rounds fault other calm mode orderly_later h steady orderly admission_is entered over stands round_is =
    let error : ℕ → Option Errno = error_in slots rules in
    let bound : Bound = bound_after (ended_told error end.finished (requests_of items)) (names_of f.bound) in
    let lines : List ReportLine = map (line_told error end.finished) (requests_of items) in
    let text : List ℕ = round_text show (record { round = old.rounds + 1; batch = Some number; point = f.point }) lines end.entries (reverse (answered_in error (old.rounds + 1) (requests_of items)) ++ end.completions) in (
      text,
      batch_cut show n script before s now f ahead later old new images after printed text items number slots rules end lines end.left failmode (pairs_of bound) rest fits rounds fault other calm mode orderly_later h steady orderly admission_is
          (record { journal = entered; lines_are = refl; bound_is = λ name. named_pair bound name }) over stands round_is refl,
    )

-- ---- the round of a clear

pub clear_told : (show : Show) (n : RunSize) (script : Script) (before : Images) (s now : Standing) (f g : SeenFold) (ahead : Ahead) (later : List (List Request)) (old new : Journal) (images after : Images) (printed text : List ℕ)
    (end : SeenEnd) (lines : List ReportLine) (left : List (List Pending)) (failmode : Failmode) (made : List (List ℕ × Tree)) (rest : Plan → State → Course) (fits : Tree → Type 0) (rounds : ℕ)
    → script.failmode ≡ failmode → AllByRecursion (IsOrderlyBatch (rows_tell_apart s.rows)) later
    → IsCourseAt show n script before s f ahead later old images printed (λ plan st. then_course (run_suspended plan st) (rest plan))
    → IsSteady fits s rounds f
    → IsBatchRun no_error f.unfinished f.bound made old new end lines left
    → IsRoundEnd s (old.rounds + 1) f.suspended end → StandsAfter s now (old.rounds + 1) f.suspended end
    → IsRound (terms_at s failmode (old.rounds + 1) f.point) f.suspended images after end
    → g.bound ≡ made → g.suspended ≡ left → g.unfinished ≡ waiting_of f.unfinished lines
    → g.point ≡ f.point → g.panicked ≡ (is_panic failmode && has_trees left) → g.tally ≡ counted_in lines f.tally
    → text ≡ round_text show (record { round = old.rounds + 1; batch = None; point = f.point }) lines end.entries end.completions
    → IsCourseAt show n script before now g ahead later new after (printed ++ text) rest
clear_told show n script before s now f g ahead later old new images after printed text end lines left failmode made rest fits rounds mode orderly_later h steady ran over stands round_is bound_is suspended_is unfinished_is point_is panicked_is tally_is text_is =
    let left_is : left ≡ end.left = ran.journal.left_is in
    let ran_now : IsBatchRun no_error f.unfinished f.bound g.bound old new end lines end.left =
    subst (λ (b : List (List ℕ × Tree)). IsBatchRun no_error f.unfinished f.bound b old new end lines end.left) (sym bound_is)
    (subst (λ (l : List (List Pending)). IsBatchRun no_error f.unfinished f.bound made old new end lines l) left_is ran) in
    let text_now : text ≡ round_text show (record { round = old.rounds + 1; batch = None; point = f.point }) lines end.entries (reverse (answered_in no_error (old.rounds + 1) f.unfinished) ++ end.completions) =
    text_is ∙ ap (λ (cs : List Completion). round_text show (record { round = old.rounds + 1; batch = None; point = f.point }) lines end.entries (reverse cs ++ end.completions)) (sym (none_answered (old.rounds + 1) f.unfinished)) in
    subst (λ (t : List ℕ). IsCourseAt show n script before now g ahead later new after (printed ++ t) rest) (sym text_now)
    (clear_next show n script before s now f g ahead later old new images after printed end lines rest h.up orderly_later h steady.waits steady.live ran_now over stands
    (subst (λ (mode_now : Failmode). IsRound (terms_at s mode_now (old.rounds + 1) f.point) f.suspended images after end) (sym mode) round_is)
    (suspended_is ∙ left_is)
    (unfinished_is ∙ (ap (waiting_of f.unfinished) ran.lines_are ∙ waiting_told no_error end.finished f.unfinished))
    point_is (panicked_is ∙ (ap (λ (m : Failmode). is_panic m && has_trees left) (sym mode) ∙ ap (λ (l : List (List Pending)). is_panic script.failmode && has_trees l) left_is)) tally_is)

pub clear_cut : {w : Stopping} → (show : Show) (n : RunSize) (script : Script) (before : Images) (s now : Standing) (f : SeenFold) (ahead : Ahead) (later : List (List Request)) (old new : Journal) (images after : Images) (printed text : List ℕ)
    (end : SeenEnd) (lines : List ReportLine) (left : List (List Pending)) (failmode : Failmode) (made : List (List ℕ × Tree)) (rest : Plan → State → Course) (fits : Tree → Type 0) (rounds : ℕ) (fault : RunFault)
    → IsOther fault → w.stopped ≡ false → script.failmode ≡ failmode → AllByRecursion (IsOrderlyBatch (rows_tell_apart s.rows)) later
    → IsCourseAt show n script before s f ahead later old images printed (λ plan st. then_course (run_suspended plan st) (rest plan))
    → IsSteady fits s rounds f
    → IsBatchRun no_error f.unfinished f.bound made old new end lines left
    → IsRoundEnd s (old.rounds + 1) f.suspended end → StandsAfter s now (old.rounds + 1) f.suspended end
    → IsRound (terms_at s failmode (old.rounds + 1) f.point) f.suspended images after end
    → text ≡ round_text show (record { round = old.rounds + 1; batch = None; point = f.point }) lines end.entries end.completions
    → IsCut show n script before s.tops w fault new after (printed ++ text)
clear_cut {w = w} show n script before s now f ahead later old new images after printed text end lines left failmode made rest fits rounds fault other calm mode orderly_later h steady ran over stands round_is text_is =
    let none : List (List ℕ) = [] in
    let g : SeenFold = record {
      bound = made;
      suspended = left;
      unfinished = waiting_of f.unfinished lines;
      awaited = none;
      point = f.point;
      panicked = is_panic failmode && has_trees left;
      tally = counted_in lines f.tally;
    } in
    subst (λ (tops : List _). IsCut show n script before tops w fault new after (printed ++ text)) stands.tops
    (cut_at show n script before now g ahead later new after (printed ++ text) rest fault other calm
    (clear_told show n script before s now f g ahead later old new images after printed text end lines left failmode made rest fits rounds mode orderly_later h steady ran over stands round_is refl refl refl refl refl refl text_is))

pub clear_untold : {w : Stopping} → (show : Show) (n : RunSize) (script : Script) (before : Images) (s now : Standing) (f : SeenFold) (ahead : Ahead) (later : List (List Request)) (old new : Journal) (images after : Images) (printed : List ℕ)
    (end : SeenEnd) (failmode : Failmode) (rest : Plan → State → Course) (fits : Tree → Type 0) (rounds : ℕ) (fault : RunFault)
    → IsOther fault → w.stopped ≡ false → script.failmode ≡ failmode → AllByRecursion (IsOrderlyBatch (rows_tell_apart s.rows)) later
    → IsCourseAt show n script before s f ahead later old images printed (λ plan st. then_course (run_suspended plan st) (rest plan))
    → IsSteady fits s rounds f
    → IsEntered [] old new end end.finished end.left
    → IsRoundEnd s (old.rounds + 1) f.suspended end → StandsAfter s now (old.rounds + 1) f.suspended end
    → IsRound (terms_at s failmode (old.rounds + 1) f.point) f.suspended images after end
    → (text : List ℕ) × IsCut show n script before s.tops w fault new after (printed ++ text)
clear_untold {w = w} show n script before s now f ahead later old new images after printed end failmode rest fits rounds fault other calm mode orderly_later h steady entered over stands round_is =
    let bound : Bound = bound_after (ended_told no_error end.finished f.unfinished) (names_of f.bound) in
    let lines : List ReportLine = map (line_told no_error end.finished) f.unfinished in
    let text : List ℕ = round_text show (record { round = old.rounds + 1; batch = None; point = f.point }) lines end.entries end.completions in
    let none : List Completion = [] in (
      text,
      clear_cut show n script before s now f ahead later old new images after printed text end lines end.left failmode (pairs_of bound) rest fits rounds fault other calm mode orderly_later h steady
          (record {
            journal = subst (λ (given : List Completion). IsEntered given old new end end.finished end.left) (sym (ap reverse (none_answered (old.rounds + 1) f.unfinished))) entered;
            lines_are = refl;
            bound_is = λ name. named_pair bound name;
          }) over stands round_is refl,
    )

-- ---- where a round was cut short

pub batch_short : {w : Stopping} → (show : Show) (n : RunSize) (script : Script) (before : Images) (s now : Standing) (f : SeenFold) (ahead : Ahead) (later : List (List Request)) (old new : Journal) (images after : Images) (printed : List ℕ)
    (items : List Item) (number : ℕ) (slots : List (ℕ × ℕ)) (rules : List Rules) (failmode : Failmode) (rest : Plan → State → Course) (fits : Tree → Type 0) (rounds : ℕ) (stop : Stop) (holds : List ℕ → Type 0)
    → script.failmode ≡ failmode → AllByRecursion (IsOrderlyBatch (rows_tell_apart s.rows)) later
    → IsCourseAt show n script before s f ahead (requests_of items ∷ later) old images printed (λ plan st. then_course (run_batch plan (record { number = number; requests = requests_of items }) st) (rest plan))
    → IsSteady fits s rounds f → IsOrderlyBatch (rows_tell_apart s.rows) (requests_of items)
    → IsAdmission (has_trees f.suspended) (is_name_in f.awaited) (is_some_name f.bound) (trees_of (requests_of items)) slots rules
    → AreRising (requests_of items)
    → IsCutShort s now w stop (terms_at s failmode (old.rounds + 1) f.point) (pending_trees (names_of f.bound) number (trees_of (running slots rules items))) (reverse (answered_in (error_in slots rules) (old.rounds + 1) (requests_of items))) old new images after
    → (text : List ℕ) × IsCut show n script before s.tops w (fault_of stop) new after text × IsCutText (fault_of stop) holds holds printed text
batch_short {w = w} show n script before s now f ahead later old new images after printed items number slots rules failmode rest fits rounds stop holds mode orderly_later h steady orderly admission_is up (inl (is, calm, same, unmoved)) = (
  printed,
  subst (λ (i : Images). IsCut show n script before s.tops w (fault_of stop) new i printed) (sym unmoved)
      (subst (λ (j : Journal). IsCut show n script before s.tops w (fault_of stop) j images printed) (sym same)
      (cut_at show n script before s f ahead (requests_of items ∷ later) old images printed (λ plan st. then_course (run_batch plan (record { number = number; requests = requests_of items }) st) (rest plan)) (fault_of stop)
      (subst (λ (x : Stop). IsOther (fault_of x)) (sym is) tt) calm h)),
  nothing_more (fault_of stop) holds printed (printed_ends show n script before s f ahead (requests_of items ∷ later) old images printed (λ plan st. then_course (run_batch plan (record { number = number; requests = requests_of items }) st) (rest plan)) h),
)
batch_short {w = w} show n script before s now f ahead later old new images after printed items number slots rules failmode rest fits rounds stop holds mode orderly_later h steady orderly admission_is up (inr (inl (same, cut, differs))) = (
  printed,
  subst (λ (j : Journal). IsCut show n script before s.tops w (fault_of stop) j after printed) (sym same)
      (cut_in show n script before s f ahead (requests_of items ∷ later) old images after printed (λ plan st. then_course (run_batch plan (record { number = number; requests = requests_of items }) st) (rest plan)) stop
      (terms_at s failmode (old.rounds + 1) f.point) (pending_trees (names_of f.bound) number (trees_of (running slots rules items))) h
      (batch_goes_on show n script before s f ahead (requests_of items ∷ later) old images printed items number (is_name_in f.awaited) slots rules rest failmode h up
      (names_awaited f.suspended f.unfinished (is_name_in f.awaited) steady.waits.numbers steady.awaited) admission_is mode) cut differs),
  nothing_more (fault_of stop) holds printed (printed_ends show n script before s f ahead (requests_of items ∷ later) old images printed (λ plan st. then_course (run_batch plan (record { number = number; requests = requests_of items }) st) (rest plan)) h),
)
batch_short {w = w} show n script before s now f ahead later old new images after printed items number slots rules failmode rest fits rounds DeviceStops holds mode orderly_later h steady orderly admission_is up (inr (inr ran)) =
    absurd (let no = ran.0 in cc)
batch_short {w = w} show n script before s now f ahead later old new images after printed items number slots rules failmode rest fits rounds NoMemory holds mode orderly_later h steady orderly admission_is up (inr (inr ran)) =
    let cut = batch_untold show n script before s now f ahead later old new images after printed items number slots rules ran.2 failmode rest fits rounds Memory tt ran.1 mode orderly_later h steady orderly admission_is ran.3 ran.4 ran.5 ran.6 in (
      printed ++ cut.0,
      cut.1,
      not_written holds printed cut.0 (printed_ends show n script before s f ahead (requests_of items ∷ later) old images printed (λ plan st. then_course (run_batch plan (record { number = number; requests = requests_of items }) st) (rest plan)) h),
    )

pub clear_short : {w : Stopping} → (show : Show) (n : RunSize) (script : Script) (before : Images) (s now : Standing) (f : SeenFold) (ahead : Ahead) (later : List (List Request)) (old new : Journal) (images after : Images) (printed : List ℕ)
    (failmode : Failmode) (rest : Plan → State → Course) (fits : Tree → Type 0) (rounds : ℕ) (stop : Stop) (holds : List ℕ → Type 0)
    → script.failmode ≡ failmode → AllByRecursion (IsOrderlyBatch (rows_tell_apart s.rows)) later
    → IsCourseAt show n script before s f ahead later old images printed (λ plan st. then_course (run_suspended plan st) (rest plan))
    → IsSteady fits s rounds f
    → IsCutShort s now w stop (terms_at s failmode (old.rounds + 1) f.point) f.suspended [] old new images after
    → (text : List ℕ) × IsCut show n script before s.tops w (fault_of stop) new after text × IsCutText (fault_of stop) holds holds printed text
clear_short {w = w} show n script before s now f ahead later old new images after printed failmode rest fits rounds stop holds mode orderly_later h steady (inl (is, calm, same, unmoved)) = (
  printed,
  subst (λ (i : Images). IsCut show n script before s.tops w (fault_of stop) new i printed) (sym unmoved)
      (subst (λ (j : Journal). IsCut show n script before s.tops w (fault_of stop) j images printed) (sym same)
      (cut_at show n script before s f ahead later old images printed (λ plan st. then_course (run_suspended plan st) (rest plan)) (fault_of stop)
      (subst (λ (x : Stop). IsOther (fault_of x)) (sym is) tt) calm h)),
  nothing_more (fault_of stop) holds printed (printed_ends show n script before s f ahead later old images printed (λ plan st. then_course (run_suspended plan st) (rest plan)) h),
)
clear_short {w = w} show n script before s now f ahead later old new images after printed failmode rest fits rounds stop holds mode orderly_later h steady (inr (inl (same, cut, differs))) = (
  printed,
  subst (λ (j : Journal). IsCut show n script before s.tops w (fault_of stop) j after printed) (sym same)
      (cut_in show n script before s f ahead later old images after printed (λ plan st. then_course (run_suspended plan st) (rest plan)) stop (terms_at s failmode (old.rounds + 1) f.point) f.suspended h
      (clear_goes_on show n script before s f ahead later old images printed rest failmode h mode) cut differs),
  nothing_more (fault_of stop) holds printed (printed_ends show n script before s f ahead later old images printed (λ plan st. then_course (run_suspended plan st) (rest plan)) h),
)
clear_short {w = w} show n script before s now f ahead later old new images after printed failmode rest fits rounds DeviceStops holds mode orderly_later h steady (inr (inr ran)) =
    absurd (let no = ran.0 in cc)
clear_short {w = w} show n script before s now f ahead later old new images after printed failmode rest fits rounds NoMemory holds mode orderly_later h steady (inr (inr ran)) =
    let cut = clear_untold show n script before s now f ahead later old new images after printed ran.2 failmode rest fits rounds Memory tt ran.1 mode orderly_later h steady ran.3 ran.4 ran.5 ran.6 in (
      printed ++ cut.0,
      cut.1,
      not_written holds printed cut.0 (printed_ends show n script before s f ahead later old images printed (λ plan st. then_course (run_suspended plan st) (rest plan)) h),
    )

-- ---- what stays known, whether images are told or not

pub map_two : {X Y : Type 0} (h : X → Y) (xs ys : List X) → map h (xs ++ ys) ≡ map h xs ++ map h ys
map_two h [] ys = refl
map_two h (x ∷ xs) ys = ap (λ (zs : List _). h x ∷ zs) (map_two h xs ys)

pub len_map : {X Y : Type 0} (h : X → Y) (xs : List X) → length (map h xs) ≡ length xs
len_map h [] = refl
len_map h (x ∷ xs) = ap (λ (n : ℕ). suc n) (len_map h xs)

-- each request of the round was counted, or waits
pub few_told : (old new : Tally) (lines : List ReportLine) (front now rs : List Request) → new ≡ counted_in lines old → now ≡ front ++ waiting_of rs lines → length rs ≡ length lines
    → new.good + new.bad + length now ≡ old.good + old.bad + length front + length rs
few_told old new lines front now rs tally_is now_is same =
    let counts = line_counts lines old in
    let a : new.good ≡ old.good + tally (λ (l : ReportLine). good_line l.result) lines = ap (λ (t : Tally). t.good) tally_is ∙ counts.good in
    let b : new.bad ≡ old.bad + tally (λ (l : ReportLine). bad_line l.result) lines = ap (λ (t : Tally). t.bad) tally_is ∙ counts.bad in
    let d : length now ≡ length front + length (waiting_of rs lines) = ap length now_is ∙ length-append front (waiting_of rs lines) in
    let e = waits_and_counts rs lines same in omega arith

-- places in use stay inside the tops
inside_after : (s now : Standing) (round : ℕ) (trees : List (List Pending)) (end : SeenEnd) → StandsAfter s now round trees end → IsRoundEnd s round trees end
    → ((p : Place) → Contains s.live p → IsTrue (is_inside (sizes_of s.tops) p)) → (p : Place) → Contains now.live p → IsTrue (is_inside (sizes_of now.tops) p)
inside_after s now round trees end stands over inside p at = subst (λ (tops : List Top). IsTrue (is_inside (sizes_of tops) p)) (sym stands.tops) (go ((stands.live p).0 at))
  where
    go : (Contains s.live p × ¬ Contains (freed_places trees end.finished) p) ⊎ Contains (made_places end.finished) p → IsTrue (is_inside (sizes_of s.tops) p)
    go (inl old) = inside p old.0
    go (inr made) = one_passing (is_inside (sizes_of s.tops)) (made_places end.finished) p over.inside (contains_one p (made_places end.finished) made)

pub batch_steady : (fits : Tree → Type 0) (s now : Standing) (old new : Journal) (f g : SeenFold) (items : List Item) (number : ℕ) (slots : List (ℕ × ℕ)) (rules : List Rules) (end : SeenEnd) (lines : List ReportLine) (left : List (List Pending)) (made : List (List ℕ × Tree))
    → IsSteady fits s old.rounds f → AreRising (f.unfinished ++ requests_of items) → IsOrderlyBatch (rows_tell_apart s.rows) (requests_of items)
    → IsAdmission (has_trees f.suspended) (is_name_in f.awaited) (is_some_name f.bound) (trees_of (requests_of items)) slots rules
    → IsBatchRun (error_in slots rules) (requests_of items) f.bound made old new end lines left
    → IsRoundEnd s (old.rounds + 1) (pending_trees (names_of f.bound) number (trees_of (running slots rules items))) end
    → StandsAfter s now (old.rounds + 1) (pending_trees (names_of f.bound) number (trees_of (running slots rules items))) end
    → ((name : List ℕ) → IfSome (named_in made name) fits)
    → g.bound ≡ made → g.suspended ≡ f.suspended ++ left → g.unfinished ≡ f.unfinished ++ waiting_of (requests_of items) lines
    → ((name : List ℕ) → is_name_in g.awaited name ≡ (is_name_in f.awaited name || is_named_by (waiting_of (requests_of items) lines) name))
    → g.tally.read ≤ g.tally.good * 2 ^ 64
    → IsSteady fits now new.rounds g
batch_steady fits s now old new f g items number slots rules end lines left made steady rising orderly admission_is ran over stands fits_all bound_is suspended_is unfinished_is awaited_is sums =
    let requests : List Request = requests_of items in
    let error : ℕ → Option Errno = error_in slots rules in
    let apart : Bool = rows_tell_apart s.rows in
    let awaits = names_awaited f.suspended f.unfinished (is_name_in f.awaited) steady.waits.numbers steady.awaited in
    let up : AreRising requests = (rising_both f.unfinished requests rising).1 in
    let waits_are : waiting_of requests lines ≡ filter (is_left error end.finished) requests = ap (waiting_of requests) ran.lines_are ∙ waiting_told error end.finished requests in
    let whole : AreSuspended apart made (f.suspended ++ end.left) (f.unfinished ++ filter (is_left error end.finished) requests) =
    batch_suspended s (old.rounds + 1) number (is_name_in f.awaited) f.suspended f.unfinished f.bound made items slots rules end steady.waits steady.live awaits rising orderly admission_is over ran.bound_is in
    let trees_are : f.suspended ++ end.left ≡ g.suspended = ap (λ (l : List (List Pending)). f.suspended ++ l) (sym ran.journal.left_is) ∙ sym suspended_is in
    let requests_are : f.unfinished ++ filter (is_left error end.finished) requests ≡ g.unfinished = ap (λ (rs : List Request). f.unfinished ++ rs) (sym waits_are) ∙ sym unfinished_is in
    record {
      fits_all = subst (λ (b : List (List ℕ × Tree)). (name : List ℕ) → IfSome (named_in b name) fits) (sym bound_is) fits_all;
      live = subst (λ (b : List (List ℕ × Tree)). IsLive now.live b) (sym bound_is)
          (live_after s now (old.rounds + 1) apart (pending_trees (names_of f.bound) number (trees_of (running slots rules items))) end requests error f.bound made steady.live stands over
          (batch_over apart f.suspended (is_name_in f.awaited) f.bound number items slots rules up orderly awaits admission_is) ran.bound_is);
      inside = inside_after s now (old.rounds + 1) (pending_trees (names_of f.bound) number (trees_of (running slots rules items))) end stands over steady.inside;
      waits = subst (λ (rows : List Row). AreSuspended (rows_tell_apart rows) g.bound g.suspended g.unfinished) (sym stands.rows)
          (subst (λ (b : List (List ℕ × Tree)). AreSuspended apart b g.suspended g.unfinished) (sym bound_is)
          (subst (λ (ts : List (List Pending)). AreSuspended apart made ts g.unfinished) trees_are
          (subst (λ (rs : List Request). AreSuspended apart made (f.suspended ++ end.left) rs) requests_are whole)));
      awaited = λ name.
          awaited_is name
          ∙ (ap (λ (b : Bool). b || is_named_by (waiting_of requests lines) name) (steady.awaited name)
          ∙ (sym (named_both f.unfinished (waiting_of requests lines) name) ∙ ap (λ (rs : List Request). is_named_by rs name) (sym unfinished_is)));
      runs = stands.stopped;
      last = stands.last ∙ sym ran.journal.rounds;
      sums = sums;
    }

pub clear_steady : (fits : Tree → Type 0) (s now : Standing) (old new : Journal) (f g : SeenFold) (end : SeenEnd) (lines : List ReportLine) (left : List (List Pending)) (made : List (List ℕ × Tree))
    → IsSteady fits s old.rounds f
    → IsBatchRun no_error f.unfinished f.bound made old new end lines left
    → IsRoundEnd s (old.rounds + 1) f.suspended end → StandsAfter s now (old.rounds + 1) f.suspended end
    → ((name : List ℕ) → IfSome (named_in made name) fits)
    → g.bound ≡ made → g.suspended ≡ left → g.unfinished ≡ waiting_of f.unfinished lines
    → ((name : List ℕ) → is_name_in g.awaited name ≡ is_named_by (waiting_of f.unfinished lines) name)
    → g.tally.read ≤ g.tally.good * 2 ^ 64
    → IsSteady fits now new.rounds g
clear_steady fits s now old new f g end lines left made steady ran over stands fits_all bound_is suspended_is unfinished_is awaited_is sums =
    let apart : Bool = rows_tell_apart s.rows in
    let waits_are : waiting_of f.unfinished lines ≡ filter (is_left no_error end.finished) f.unfinished = ap (waiting_of f.unfinished) ran.lines_are ∙ waiting_told no_error end.finished f.unfinished in
    let whole : AreSuspended apart made end.left (filter (is_left no_error end.finished) f.unfinished) =
    clear_suspended s (old.rounds + 1) f.suspended f.unfinished f.bound made end steady.waits steady.live over ran.bound_is in
    record {
      fits_all = subst (λ (b : List (List ℕ × Tree)). (name : List ℕ) → IfSome (named_in b name) fits) (sym bound_is) fits_all;
      live = subst (λ (b : List (List ℕ × Tree)). IsLive now.live b) (sym bound_is)
          (live_after s now (old.rounds + 1) apart f.suspended end f.unfinished no_error f.bound made steady.live stands over steady.waits.over ran.bound_is);
      inside = inside_after s now (old.rounds + 1) f.suspended end stands over steady.inside;
      waits = subst (λ (rows : List Row). AreSuspended (rows_tell_apart rows) g.bound g.suspended g.unfinished) (sym stands.rows)
          (subst (λ (b : List (List ℕ × Tree)). AreSuspended apart b g.suspended g.unfinished) (sym bound_is)
          (subst (λ (ts : List (List Pending)). AreSuspended apart made ts g.unfinished) (sym ran.journal.left_is ∙ sym suspended_is)
          (subst (λ (rs : List Request). AreSuspended apart made end.left rs) (sym waits_are ∙ sym unfinished_is) whole)));
      awaited = λ name. awaited_is name ∙ ap (λ (rs : List Request). is_named_by rs name) (sym unfinished_is);
      runs = stands.stopped;
      last = stands.last ∙ sym ran.journal.rounds;
      sums = sums;
    }

-- nothing was answered before the round of a clear
pub ends_alone : (old new : Journal) (requests : List Request) (ends : List Completion) → new.completions ≡ old.completions ++ (reverse (answered_in no_error (old.rounds + 1) requests) ++ ends)
    → new.completions ≡ old.completions ++ ends
ends_alone old new requests ends is = is ∙ ap (λ (cs : List Completion). old.completions ++ (reverse cs ++ ends)) (none_answered (old.rounds + 1) requests)

-- what the round of a clear answers, by its trees and their requests
abbrev pub ClearRan : Standing → Standing → (Images → Type 0) → (Images → Type 0) → Failmode → ℕ → List (List ℕ × Tree) → List (List ℕ × Tree) → Journal → Journal → List ReportLine → List (List Pending)
    → List (List Pending) → List Request → Type 0
ClearRan s now tells new_tells failmode point bound made old new lines left trees unfinished = (end : SeenEnd)
    × IsBatchRun no_error unfinished bound made old new end lines left
    × IsRoundEnd s (old.rounds + 1) trees end
    × StandsAfter s now (old.rounds + 1) trees end
    × ((before : Images) → tells before → (after : Images) × new_tells after × IsRound (terms_at s failmode (old.rounds + 1) point) trees before after end)

pub clear_moved : (s now : Standing) (tells new_tells : Images → Type 0) (failmode : Failmode) (point : ℕ) (bound made : List (List ℕ × Tree)) (old new : Journal) (lines : List ReportLine) (left trees waits : List (List Pending)) (requests unfinished : List Request)
    → trees ≡ waits → requests ≡ unfinished → ClearRan s now tells new_tells failmode point bound made old new lines left trees requests → ClearRan s now tells new_tells failmode point bound made old new lines left waits unfinished
clear_moved s now tells new_tells failmode point bound made old new lines left trees waits requests unfinished same alike h =
    subst (λ (ts : List (List Pending)). ClearRan s now tells new_tells failmode point bound made old new lines left ts unfinished) same
    (subst (λ (rs : List Request). ClearRan s now tells new_tells failmode point bound made old new lines left trees rs) alike h)
