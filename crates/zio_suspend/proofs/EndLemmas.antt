-- Behind the last line of a script, and where its run was cut short.
use Rattle.std.proofs.Common.{◌≡◌, ℕ, suc, ◌+◌, ◌-◌, List, [], ◌∷◌, ◌++◌, length, map, filter, Bool, true, false, ◌||◌, Option, Some, None, refl, sym, ap, ◌∙◌, subst, inl, arith}
use Rattle.std.specs.Prelude.{IfErr, IsErrAnd, Result, Ok, Err, cond, decimal, codes, is_none, is_some, sum_by}
use Rattle.std.proofs.lemmas.List.{append-nil}
use Rattle.zio_outside.specs.Outside.{Appends}
use Rattle.zio_types.specs.declared.error.Errno.{Errno}
use Rattle.zio_types.specs.declared.journal.Completion.{Completion}
use Rattle.zio_types.specs.declared.journal.Journal.{Journal}
use Rattle.zio_types.specs.declared.place.Top.{Top}
use Rattle.zio_types.specs.Choices.{Choice}
use Rattle.zio_script.specs.declared.script.Request.{Request}
use Rattle.zio_script.specs.declared.script.Script.{Script}
use Rattle.zio_script.specs.Accepted.{AreRising, batches_from}
use Rattle.zio_script.specs.Requests.{requests_of}
use Rattle.zio_cksum.specs.Images.{Images}
use Rattle.zio_gang.specs.declared.ending.Ending.{Ending}
use Rattle.zio_gang.specs.declared.bound.Bound.{Bound}
use Rattle.zio_gang.specs.Attempts.{Ended, Pending}
use Rattle.zio_gang.specs.Journals.{AreCompletions, IsLawfulJournal}
use Rattle.zio_gang.specs.Rounds.{block_of}
use Rattle.zio_gang.specs.Runs.{Batch as DefinedBatch, Course, Event, State, ending, ending_if, has_held, has_trees, left_if, quiet, rounds_of, run_lines, run_script}
use Rattle.zio_gang.specs.Trees.{sizes_of}
use Rattle.zio_report.specs.declared.report.RunFault.{RunFault}
use Rattle.zio_report.specs.declared.report.RunFault.TheVariants.{Device, Sink, Memory}
use Rattle.zio_report.specs.declared.report.Show.{Show}
use Rattle.zio_report.specs.declared.report.Show.TheVariants.{Report, Summary}
use Rattle.zio_report.specs.Lines.{as_line}
use Rattle.zio_report.specs.Meanings.{IsEmptyJournal, IsWholeRun, course_of, records_of, tops_of}
use Rattle.zio_report.specs.Reports.{Records, RunSize, all_ended, bad_ended, end_text, good_ended, pool_text, run_text, text_so_far}
use Rattle.zio_course.specs.declared.fold.Batch.{Batch}
use Rattle.zio_course.specs.declared.fold.Fold.{Fold}
use Rattle.zio_course.specs.declared.fold.Tally.{Tally}
use Rattle.zio_course.specs.Course.{shown_of}
use Rattle.zio_course.specs.Folds.{SeenFold, batches_seen, fold_seen, has_items}
use Rattle.zio_course.specs.Moves.{LinesCut, LinesOver}
use Rattle.zio_course.specs.Names.{named_in, pairs_of}
use Rattle.zio_course.specs.Runners.{Standing, Stopping}
use Rattle.zio_course.specs.SoFar.{Ahead, EndsWhole, IsAtEnd, IsCourseAt, IsCut, IsCutText, IsFullText}
use Rattle.zio_course.proofs.CutLemmas.{IsOther, cut_at, printed_ends, written_then}
use Rattle.zio_course.proofs.MoveLemmas.{Appends-both}
use Rattle.zio_course.proofs.RoundsLemmas.{trees_items}
use Rattle.zio_suspend.specs.Ends.{ending_with, last_text}
use Rattle.zio_suspend.specs.Pools.{AreBoundIn}
use Rattle.zio_suspend.proofs.StartLemmas.{IsNew, start_course}

-- ---- the ending

held_items : (bs : List Batch) → has_held (batches_seen bs) ≡ has_items bs
held_items [] = refl
held_items (b ∷ bs) = refl

ending_is : {T : Type 0} (pending : T → List Pending) (trees : List T) (held : List Batch) (panicked : Bool) (st : State)
    → st.panicked ≡ panicked → st.suspended ≡ map pending trees → st.held ≡ batches_seen held → ending_with panicked (has_items trees || has_items held) ≡ ending st
ending_is pending trees held panicked st same suspended waiting = go panicked ∙ ap (λ (b : Bool). ending_if b st) (sym same)
  where
    left : (has_items trees || has_items held) ≡ (has_trees st.suspended || has_held st.held)
    left =
        ap (λ (b : Bool). b || has_items held) (sym (trees_items pending trees) ∙ ap has_trees (sym suspended))
        ∙ ap (λ (b : Bool). has_trees st.suspended || b) (sym (held_items held) ∙ ap has_held (sym waiting))

    go : (b : Bool) → ending_with b (has_items trees || has_items held) ≡ ending_if b st
    go true = refl
    go false = ap left_if left

-- ---- the text

-- those that finished did so without or with an error
finished_all : (es : List Ended) → length (filter (λ (e : Ended). is_none e.error) es) + length (filter (λ (e : Ended). is_some e.error) es) ≡ length es
finished_all [] = refl
finished_all (e ∷ es) = go e.error (finished_all es)
  where
    good : List Ended
    good = filter (λ (x : Ended). is_none x.error) es

    bad : List Ended
    bad = filter (λ (x : Ended). is_some x.error) es

    go : (o : Option Errno) → length good + length bad ≡ length es → length (cond (is_none o) (e ∷ good) good) + length (cond (is_some o) (e ∷ bad) bad) ≡ suc (length es)
    go None h = omega (arith, h)
    go (Some error) h = omega (arith, h)

-- the whole text, by the tally
pub text_over : (show : Show) (n : RunSize) (j : Records) (events : List Event) (t : Tally) (end : Ending)
    → t.good ≡ length (good_ended events) → t.bad ≡ length (bad_ended events) → t.read ≡ sum_by (λ (e : Ended). length e.bytes) (good_ended events)
    → text_so_far show n j events ++ last_text show n.requests t end ≡ run_text show n j events end
text_over (Report journal bytes) n j events t end good bad read = refl
text_over Summary n j events t end good bad read =
    let texts : ℕ → ℕ → ℕ → ℕ → List ℕ = λ (a b c d : ℕ).
    as_line (codes "requests " ++ decimal n.requests)
    ++ as_line (codes "ok " ++ decimal a)
    ++ as_line (codes "failed " ++ decimal b)
    ++ as_line (codes "left " ++ decimal (n.requests - c))
    ++ as_line (codes "read " ++ decimal d)
    ++ end_text end in
    let all : t.good + t.bad ≡ length (all_ended events) = ap (λ (k : ℕ). k + t.bad) good ∙ (ap (λ (k : ℕ). length (good_ended events) + k) bad ∙ finished_all (all_ended events)) in
    ap (λ (a : ℕ). texts a t.bad (t.good + t.bad) t.read) good
    ∙ (ap (λ (b : ℕ). texts (length (good_ended events)) b (t.good + t.bad) t.read) bad
    ∙ (ap (λ (c : ℕ). texts (length (good_ended events)) (length (bad_ended events)) c t.read) all
    ∙ ap (λ (d : ℕ). texts (length (good_ended events)) (length (bad_ended events)) (length (all_ended events)) d) read))

-- ---- the course is over

pub course_over : (show : Show) (n : RunSize) (script : Script) (before : Images) (s : Standing) (f : SeenFold) (ahead : Ahead) (later : List (List Request)) (journal : Journal) (images : Images) (printed : List ℕ)
    (h : IsCourseAt show n script before s f ahead later journal images printed (λ plan st. quiet st)) → run_script script before journal.places ≡ record { events = h.events; state = h.state }
course_over show n script before s f ahead later journal images printed h =
    ap (λ (cs : List Choice). run_script script before cs) (sym (append-nil journal.places))
    ∙ (h.reached [] tt ∙ ap (λ (es : List Event). record { events = es; state = h.state }) (append-nil h.events))

-- It is the course of the whole script, and this is its text.
pub whole_run : (show : Show) (n : RunSize) (script : Script) (before : Images) (s : Standing) (f : SeenFold) (ahead : Ahead) (later : List (List Request)) (journal : Journal) (images : Images) (printed : List ℕ) (end : Ending)
    (h : IsCourseAt show n script before s f ahead later journal images printed (λ plan st. quiet st)) → s.tops ≡ tops_of script before → end ≡ ending h.state
    → IsWholeRun show n script before journal images (printed ++ last_text show n.requests f.tally end) end
whole_run show n script before s f ahead later journal images printed end h tops end_is =
    let is : run_script script before journal.places ≡ record { events = h.events; state = h.state } = course_over show n script before s f ahead later journal images printed h in
    let so_far : printed ≡ text_so_far show n (records_of journal) h.events =
    h.entered.shown [] [] (record { choices = tt; completions = tt })
    ∙ (ap (λ (cs : List Choice). text_so_far show n (record { choices = cs; completions = journal.completions ++ [] }) h.events) (append-nil journal.places)
    ∙ ap (λ (cs : List Completion). text_so_far show n (record { choices = journal.places; completions = cs }) h.events) (append-nil journal.completions)) in
    record {
      images = sym (ap (λ (c : Course). c.state.images) is ∙ h.at.images_are);
      report = ap (λ (text : List ℕ). text ++ last_text show n.requests f.tally end) so_far
          ∙ (text_over show n (records_of journal) h.events f.tally end h.good h.bad h.read
          ∙ ap (λ (c : Course). run_text show n (records_of journal) c.events end) (sym is));
      places = subst (λ (c : Course). IsLawfulJournal (sizes_of (tops_of script before)) (rounds_of c.events) journal.places) (sym is)
          (subst (λ (ts : List Top). IsLawfulJournal (sizes_of ts) (rounds_of h.events) journal.places) tops h.entered.lawful);
      rounds = h.entered.counted ∙ ap (λ (c : Course). length (rounds_of c.events)) (sym is);
      completions = subst (λ (c : Course). AreCompletions (requests_of script.items) (rounds_of c.events) journal.completions) (sym is) h.entered.completed;
      ending_is = end_is ∙ ap (λ (c : Course). ending c.state) (sym is);
    }

at_end : (show : Show) (n : RunSize) (script : Script) (before : Images) (journal : Journal) (after : Images) (printed : List ℕ) (end : Ending)
    → IsWholeRun show n script before journal after printed end → IsAtEnd show n script before journal printed
at_end show n script before journal after printed end h =
    (h.rounds, h.report ∙ ap (λ (e : Ending). run_text show n (records_of journal) (run_script script before journal.places).events e) h.ending_is)

-- ---- the whole script

-- what is known before the first line
pub record Starts (script : Script) (s : Standing) (f : SeenFold) (journal : Journal) (tells : Images → Type 0) : Type 0 where
  pub up : AreRising (requests_of script.items)
  pub empty : IsEmptyJournal journal
  pub rows : s.rows ≡ script.faults
  pub tops : (before : Images) → tells before → s.tops ≡ tops_of script before
  pub live : s.live ≡ []
  pub new : IsNew f

-- this is how the run ended, wherever its course is
abbrev pub IsEndOf : SeenFold → List DefinedBatch → Ending → Type 0
IsEndOf f held end = (st : State) → st.panicked ≡ f.panicked → st.suspended ≡ f.suspended → st.held ≡ held → end ≡ ending st

pub end_of : {T : Type 0} (pending : T → List Pending) (fold : Fold T) (held : List Batch) (end : Ending) → end ≡ ending_with fold.panicked (has_items fold.suspended || has_items held) → IsEndOf (fold_seen pending fold) (batches_seen held) end
end_of pending fold held end is st same suspended waiting = is ∙ ending_is pending fold.suspended held fold.panicked st same suspended waiting

starts_at : (show : Show) (n : RunSize) (script : Script) (s : Standing) (f : SeenFold) (old : Journal) (tells : Images → Type 0) → Starts script s f old tells
    → (before : Images) → tells before
    → IsCourseAt show n script before s f (record { held = []; batch = []; batches = 0 }) (batches_from [] script.items) old before (shown_of show (pool_text n.tops n.images)) (λ plan st. run_lines plan script.items st)
starts_at show n script s f old tells h before told = start_course show n script before s f old h.up h.empty h.rows (h.tops before told) h.live h.new

-- all of it was written, and where they are listed, these are the blocks that it leaves
pub pool_whole : (show : Show) (n : RunSize) (script : Script) (s now : Standing) (f g : SeenFold) (held : List DefinedBatch) (old new : Journal) (tells new_tells : Images → Type 0) (holds mid over new_holds : List ℕ → Type 0) (end : Ending) (lists : Bool) (blocks : List Bound)
    → Starts script s f old tells → now.tops ≡ s.tops → IsEndOf g held end
    → LinesOver show script.failmode s now f g script.items held old new tells new_tells mid over
    → Appends holds mid (shown_of show (pool_text n.tops n.images)) → Appends over new_holds (last_text show n.requests g.tally end)
    → (lists ≡ true → (name : List ℕ) → named_in (pairs_of blocks) name ≡ named_in g.bound name)
    → (before : Images) → tells before → (after : Images) × (printed : List ℕ) × IsWholeRun show n script before new after printed end
    × (lists ≡ true → AreBoundIn (course_of script before new).state g.point blocks) × new_tells after × Appends holds new_holds printed
pool_whole show n script s now f g held old new tells new_tells holds mid over new_holds end lists blocks starts tops ended ran first last same before told =
    let pool : List ℕ = shown_of show (pool_text n.tops n.images) in
    let x = ran n script before before pool refl (starts_at show n script s f old tells starts before told) told in
    let text : List ℕ = last_text show n.requests g.tally end in
    let is : run_script script before new.places ≡ record { events = x.4.events; state = x.4.state } =
    course_over show n script before now g x.2 x.3 new x.0 (pool ++ x.1) x.4 in (
      x.0,
      (pool ++ x.1) ++ text,
      whole_run show n script before now g x.2 x.3 new x.0 (pool ++ x.1) end x.4 (tops ∙ starts.tops before told) (ended x.4.state x.4.panicked x.4.at.suspended_is (x.4.held ∙ x.5)),
      (λ listed. record {
        names = λ name. same listed name ∙ (sym (x.4.at.names name) ∙ ap (λ (c : Course). block_of c.state.bound name) (sym is));
        point_is = sym x.4.at.point_is ∙ ap (λ (c : Course). c.state.point) (sym is);
      }),
      x.6,
      Appends-both holds over new_holds (pool ++ x.1) text (Appends-both holds mid over pool x.1 first x.7) last,
    )

-- ---- cut short

full_same : (fault : RunFault) (show : Show) (n : RunSize) (script : Script) (before : Images) (journal : Journal) (text : List ℕ) → IsFullText fault show n script before journal text text
full_same Device show n script before journal text = refl
full_same Sink show n script before journal text = inl refl
full_same Memory show n script before journal text = inl refl

-- What a run leaves that was cut short: the images, the text of what happened, and what the sink got of it or of the whole text.
abbrev pub ScriptCut : Show → RunSize → Script → Standing → Journal → (Images → Type 0) → (Images → Type 0) → Stopping → (List ℕ → Type 0) → (List ℕ → Type 0) → RunFault → Type 0
ScriptCut show n script s new tells new_tells w holds new_holds fault =
    (before : Images) → tells before → (after : Images) × (text : List ℕ) × (full : List ℕ)
    × IsCut show n script before s.tops w fault new after text × IsFullText fault show n script before new text full × new_tells after × IsCutText fault holds new_holds [] full

pub same_fault : {A : Type 0} (r : Result A RunFault) (fault : RunFault) (P : RunFault → Type 0) → IsErrAnd r (λ e. e ≡ fault) → P fault → IfErr r P
same_fault (Ok x) fault P is h = tt
same_fault (Err e) fault P is h = subst P (sym is) h

-- at the line of the pool
pub cut_first : {w : Stopping} → (show : Show) (n : RunSize) (script : Script) (s : Standing) (f : SeenFold) (old : Journal) (tells : Images → Type 0) (holds new_holds : List ℕ → Type 0) (fault : RunFault)
    → IsOther fault → w.stopped ≡ false → Starts script s f old tells → IsCutText fault holds new_holds [] (shown_of show (pool_text n.tops n.images)) → ScriptCut show n script s old tells tells w holds new_holds fault
cut_first {w = w} show n script s f old tells holds new_holds fault other calm starts cut before told =
    let pool : List ℕ = shown_of show (pool_text n.tops n.images) in (
      before,
      pool,
      pool,
      cut_at show n script before s f (record { held = []; batch = []; batches = 0 }) (batches_from [] script.items) old before pool (λ plan st. run_lines plan script.items st) fault other calm
          (starts_at show n script s f old tells starts before told),
      full_same fault show n script before old pool,
      told,
      cut,
    )

-- at a line of the script
pub cut_between : {w : Stopping} → (show : Show) (n : RunSize) (script : Script) (s : Standing) (f : SeenFold) (old new : Journal) (tells new_tells : Images → Type 0) (holds mid new_holds : List ℕ → Type 0) (fault : RunFault)
    → Starts script s f old tells → Appends holds mid (shown_of show (pool_text n.tops n.images))
    → LinesCut show script.failmode s f script.items old new tells new_tells w mid new_holds fault → ScriptCut show n script s new tells new_tells w holds new_holds fault
cut_between {w = w} show n script s f old new tells new_tells holds mid new_holds fault starts first ran before told =
    let pool : List ℕ = shown_of show (pool_text n.tops n.images) in
    let x = ran n script before before pool refl (starts_at show n script s f old tells starts before told) told in (
      x.0,
      x.1,
      x.1,
      x.2,
      full_same fault show n script before new x.1,
      x.3,
      written_then fault holds mid new_holds [] pool x.1 first x.4,
    )

-- at the last text, by the sink or for want of memory
pub cut_last : {w : Stopping} → (show : Show) (n : RunSize) (script : Script) (s now : Standing) (f g : SeenFold) (held : List DefinedBatch) (old new : Journal) (tells new_tells : Images → Type 0) (holds mid over new_holds : List ℕ → Type 0) (end : Ending) (fault : RunFault)
    → IsOther fault → w.stopped ≡ false → Starts script s f old tells → now.tops ≡ s.tops → IsEndOf g held end
    → LinesOver show script.failmode s now f g script.items held old new tells new_tells mid over
    → Appends holds mid (shown_of show (pool_text n.tops n.images))
    → ((before : Images) (text full : List ℕ) → IsAtEnd show n script before new full → IsFullText fault show n script before new text full)
    → ((printed : List ℕ) → EndsWhole printed → IsCutText fault over new_holds printed (printed ++ last_text show n.requests g.tally end))
    → ScriptCut show n script s new tells new_tells w holds new_holds fault
cut_last {w = w} show n script s now f g held old new tells new_tells holds mid over new_holds end fault other calm starts tops ended ran first full cut before told =
    let pool : List ℕ = shown_of show (pool_text n.tops n.images) in
    let x = ran n script before before pool refl (starts_at show n script s f old tells starts before told) told in
    let text : List ℕ = last_text show n.requests g.tally end in
    let whole : IsWholeRun show n script before new x.0 ((pool ++ x.1) ++ text) end =
    whole_run show n script before now g x.2 x.3 new x.0 (pool ++ x.1) end x.4 (tops ∙ starts.tops before told) (ended x.4.state x.4.panicked x.4.at.suspended_is (x.4.held ∙ x.5)) in (
      x.0,
      pool ++ x.1,
      (pool ++ x.1) ++ text,
      subst (λ (ts : List Top). IsCut show n script before ts w fault new x.0 (pool ++ x.1)) tops (cut_at show n script before now g x.2 x.3 new x.0 (pool ++ x.1) (λ plan st. quiet st) fault other calm x.4),
      full before (pool ++ x.1) ((pool ++ x.1) ++ text) (at_end show n script before new x.0 ((pool ++ x.1) ++ text) end whole),
      x.6,
      written_then fault holds over new_holds [] (pool ++ x.1) ((pool ++ x.1) ++ text) (Appends-both holds mid over pool x.1 first x.7)
          (cut (pool ++ x.1) (printed_ends show n script before now g x.2 x.3 new x.0 (pool ++ x.1) (λ plan st. quiet st) x.4)),
    )
