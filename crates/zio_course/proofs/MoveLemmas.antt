-- Steps of a run, one after another.
use Rattle.std.proofs.Common.{◌≡◌, ℕ, suc, ◌+◌, ◌<◌, ◌≤◌, ◌^◌, List, [], ◌∷◌, ◌++◌, length, filter, Bool, true, false, not, ◌||◌, refl, sym, ap, ◌∙◌, subst, inl, inr, ◌⊎◌, arith, append_assoc, length-append, Result, Ok, Err}
use Rattle.std.specs.Prelude.{IfErr, IsErrAnd, OnOk, is_none, is_some, sum_by}
use Rattle.std.specs.List.{AllByRecursion, flat_map}
use Rattle.std.proofs.lemmas.List.{append-nil}
use Rattle.zio_outside.specs.Outside.{Appends}
use Rattle.zio_types.specs.declared.journal.Journal.{Journal}
use Rattle.zio_types.specs.declared.place.Top.{Top}
use Rattle.zio_types.specs.Choices.{Choice}
use Rattle.zio_faults.specs.declared.table.Row.{Row}
use Rattle.zio_script.specs.declared.script.Failmode.{Failmode}
use Rattle.zio_script.specs.declared.script.Request.{Request}
use Rattle.zio_script.specs.declared.script.Script.{Script}
use Rattle.zio_script.specs.Accepted.{AreRising, IsOrderlyBatch}
use Rattle.zio_cksum.specs.Images.{Images}
use Rattle.zio_gang.specs.declared.tree.Tree.{Tree}
use Rattle.zio_gang.specs.Attempts.{Ended, Pending}
use Rattle.zio_gang.specs.Runs.Event.{HeldBatch}
use Rattle.zio_gang.specs.Trees.{sizes_of}
use Rattle.zio_script.specs.Requests.{requests_of}
use Rattle.zio_course.specs.Course.{shown_of}
use Rattle.zio_gang.specs.Runs.{Batch, Course, Event, Plan, State, add_events, Round, clear_if, clear_line, go_if, go_line, goes_on, has_trees, held_batch, held_after, held_if, plan_of, quiet, rounds_of, run_batch, run_held, run_suspended, then_course}
use Rattle.zio_cksum.proofs.AllLemmas.{all_append, all_weaker}
use Rattle.zio_report.specs.declared.report.ReportLine.{ReportLine}
use Rattle.zio_report.specs.declared.report.LineResult.{LineResult}
use Rattle.zio_report.specs.declared.report.LineResult.TheVariants.{Suspended, Failed, Done, Sized, Bytes}
use Rattle.zio_report.specs.declared.report.RunFault.{RunFault}
use Rattle.zio_report.specs.declared.report.Show.{Show}
use Rattle.zio_report.specs.Reports.{RunSize, held_text}
use Rattle.zio_course.specs.Folds.{IsSteady, SeenFold, has_items, requests_in_all, waiting_by, waiting_of}
use Rattle.zio_course.specs.Moves.{HeldRan, IsGoing, LineCut, LineRan, StepCut, StepRan, requests_held}
use Rattle.zio_course.specs.Runners.{Stopping, Standing, rows_tell_apart}
use Rattle.zio_course.specs.SoFar.{Ahead, IsCourseAt, IsCut, coming, images_after, names_after}
use Rattle.zio_course.proofs.CutLemmas.{Appends-none, written_then}
use Rattle.zio_course.proofs.JoinLemmas.{rising_both, rising_join}
use Rattle.zio_course.proofs.SoFarLemmas.{events_both, rounds_held, so_far_held}

-- ---- the rest of a course

pub course_assoc : (c : Course) (d e : State → Course) → then_course (then_course c d) e ≡ then_course c (λ st. then_course (d st) e)
course_assoc c d e = events_both c.events (d c.state).events (e (d c.state).state)

-- a course that goes on the same way
pub course_same : (show : Show) (n : RunSize) (script : Script) (before : Images) (s : Standing) (f : SeenFold) (ahead : Ahead) (later : List (List Request)) (old : Journal) (images : Images) (printed : List ℕ) (rest other : Plan → State → Course)
    → (h : IsCourseAt show n script before s f ahead later old images printed rest) → ((js : List Choice) → rest (plan_of script before js) h.state ≡ other (plan_of script before js) h.state)
    → IsCourseAt show n script before s f ahead later old images printed other
course_same show n script before s f ahead later old images printed rest other h same =
    record {
      events = h.events;
      state = h.state;
      reached = λ more than. h.reached more than ∙ ap (add_events h.events) (same (old.places ++ more));
      entered = h.entered;
      plan = h.plan;
      at = h.at;
      once = h.once;
      held = h.held;
      batch = h.batch;
      batches = h.batches;
      panicked = h.panicked;
      images_are = h.images_are;
      names_are = h.names_are;
      good = h.good;
      bad = h.bad;
      read = h.read;
      parents = h.parents;
      up = h.up;
      rising = h.rising;
      among = h.among;
      past = h.past;
    }

-- what a script has yet to run, or the resume point, changes between two rounds
pub course_moved : (show : Show) (n : RunSize) (script : Script) (before : Images) (s : Standing) (f : SeenFold) (ahead : Ahead) (later : List (List Request)) (old : Journal) (images : Images) (printed : List ℕ) (rest other : Plan → State → Course)
    (held : List Batch) (batch : List Request) (batches point : ℕ)
    → (h : IsCourseAt show n script before s f ahead later old images printed rest)
    → ((js : List Choice) → rest (plan_of script before js) h.state ≡ other (plan_of script before js) (record h.state { held = held; batch = batch; batches = batches; point = point }))
    → IsCourseAt show n script before s (record f { point = point }) (record { held = held; batch = batch; batches = batches }) later old images printed other
course_moved show n script before s f ahead later old images printed rest other held batch batches point h same =
    record {
      events = h.events;
      state = record h.state { held = held; batch = batch; batches = batches; point = point };
      reached = λ more than. h.reached more than ∙ ap (add_events h.events) (same (old.places ++ more));
      at = record { names = h.at.names; used = h.at.used; suspended_is = h.at.suspended_is; rounds_is = h.at.rounds_is; point_is = refl; images_are = h.at.images_are };
      held = refl;
      batch = refl;
      batches = refl;
      entered = h.entered;
      plan = h.plan;
      once = h.once;
      panicked = h.panicked;
      images_are = h.images_are;
      names_are = h.names_are;
      good = h.good;
      bad = h.bad;
      read = h.read;
      parents = h.parents;
      up = h.up;
      rising = h.rising;
      among = h.among;
      past = h.past;
    }

pub Appends-both : (a b c : List ℕ → Type 0) (xs ys : List ℕ) → Appends a b xs → Appends b c ys → Appends a c (xs ++ ys)
Appends-both a b c xs ys h k held at = subst c (append_assoc held xs ys) (k (held ++ xs) (h held at))

-- ---- held batches

held_quiet : (plan : Plan) (held : List Batch) (st : State) → has_trees st.suspended ≡ true → run_held plan held st ≡ quiet (record st { held = held })
unfolding run_held
held_quiet plan [] st some = refl
held_quiet plan (b ∷ held) st some = ap (λ (t : Bool). held_if t (b ∷ held) st (λ now. then_course (run_batch plan b now) (run_held plan held))) some

none_held : (plan : Plan) (st : State) → run_held plan [] st ≡ quiet (record st { held = [] })
unfolding run_held
none_held plan st = refl

held_first : (plan : Plan) (b : Batch) (held : List Batch) (st : State) → has_trees st.suspended ≡ false → run_held plan (b ∷ held) st ≡ then_course (run_batch plan b st) (run_held plan held)
unfolding run_held
held_first plan b held st none = ap (λ (t : Bool). held_if t (b ∷ held) st (λ now. then_course (run_batch plan b now) (run_held plan held))) none

pub state_same : (st : State) (held : List Batch) (batch : List Request) (batches point : ℕ) → st.batch ≡ batch → st.batches ≡ batches → st.point ≡ point
    → record st { held = held } ≡ record st { held = held; batch = batch; batches = batches; point = point }
state_same st held batch batches point a b d =
    ap (λ (x : List Request). record st { held = held; batch = x }) a
    ∙ (ap (λ (x : ℕ). record st { held = held; batch = batch; batches = x }) b ∙ ap (λ (x : ℕ). record st { held = held; batch = batch; batches = batches; point = x }) d)

-- the batches that are left stay held
pub held_end : (show : Show) (n : RunSize) (script : Script) (before : Images) (s : Standing) (f : SeenFold) (ahead : Ahead) (later : List (List Request)) (old : Journal) (images : Images) (printed : List ℕ) (rest : Plan → State → Course) (held : List Batch)
    → (has_trees f.suspended ≡ true) ⊎ (held ≡ [])
    → IsCourseAt show n script before s f ahead later old images printed (λ plan st. then_course (run_held plan held st) (rest plan))
    → IsCourseAt show n script before s f (record ahead { held = held }) later old images printed rest
held_end show n script before s f ahead later old images printed rest held why h =
    course_moved show n script before s f ahead later old images printed (λ plan st. then_course (run_held plan held st) (rest plan)) rest held ahead.batch ahead.batches f.point h
    (λ js. ap (λ (c : Course). then_course c (rest (plan_of script before js))) (go (plan_of script before js) why)
    ∙ ap (λ (st : State). rest (plan_of script before js) st) (state_same h.state held ahead.batch ahead.batches f.point h.batch h.batches h.at.point_is))
  where
    go : (plan : Plan) → (has_trees f.suspended ≡ true) ⊎ (held ≡ []) → run_held plan held h.state ≡ quiet (record h.state { held = held })
    go plan (inl some) = held_quiet plan held h.state (ap has_trees h.at.suspended_is ∙ some)
    go plan (inr none) = ap (λ (bs : List Batch). run_held plan bs h.state) none ∙ (none_held plan h.state ∙ ap (λ (bs : List Batch). quiet (record h.state { held = bs })) (sym none))

-- the next one runs
pub held_next : (show : Show) (n : RunSize) (script : Script) (before : Images) (s : Standing) (f : SeenFold) (ahead : Ahead) (later : List (List Request)) (old : Journal) (images : Images) (printed : List ℕ) (rest : Plan → State → Course) (b : Batch) (held : List Batch)
    → has_trees f.suspended ≡ false
    → IsCourseAt show n script before s f ahead later old images printed (λ plan st. then_course (run_held plan (b ∷ held) st) (rest plan))
    → IsCourseAt show n script before s f ahead later old images printed (λ plan st. then_course (run_batch plan b st) (λ now. then_course (run_held plan held now) (rest plan)))
held_next show n script before s f ahead later old images printed rest b held none h =
    course_same show n script before s f ahead later old images printed (λ plan st. then_course (run_held plan (b ∷ held) st) (rest plan))
    (λ plan st. then_course (run_batch plan b st) (λ now. then_course (run_held plan held now) (rest plan))) h
    (λ js. ap (λ (c : Course). then_course c (rest (plan_of script before js))) (held_first (plan_of script before js) b held h.state (ap has_trees h.at.suspended_is ∙ none))
    ∙ course_assoc (run_batch (plan_of script before js) b h.state) (run_held (plan_of script before js) held) (rest (plan_of script before js)))

pub held_none : (show : Show) (failmode : Failmode) (s : Standing) (f : SeenFold) (held : List Batch) (old : Journal) (tells : Images → Type 0) (holds : List ℕ → Type 0) → HeldRan show failmode s s f f held held old old tells tells holds holds
held_none show failmode s f held old tells holds n script before images ahead later printed rest mode orderly h told =
    (images, [], subst (λ (text : List ℕ). IsCourseAt show n script before s f ahead (requests_held held ++ later) old images text (λ plan st. then_course (run_held plan held st) (rest plan))) (sym (append-nil printed)) h, told, Appends-none holds)

pub held_more : (show : Show) (failmode : Failmode) (s mid now : Standing) (f m g : SeenFold) (held left : List Batch) (b : Batch) (old j new : Journal) (tells mid_tells new_tells : Images → Type 0) (holds mid_holds new_holds : List ℕ → Type 0)
    → mid.rows ≡ s.rows → AllByRecursion (IsOrderlyBatch (rows_tell_apart s.rows)) (requests_held left) → has_trees m.suspended ≡ false
    → HeldRan show failmode s mid f m held (b ∷ left) old j tells mid_tells holds mid_holds
    → StepRan show failmode mid now m g (λ a. a) (b.requests ∷ []) [] j new mid_tells new_tells mid_holds new_holds (λ ahead plan st. run_batch plan b st)
    → HeldRan show failmode s now f g held left old new tells new_tells holds new_holds
held_more show failmode s mid now f m g held left b old j new tells mid_tells new_tells holds mid_holds new_holds rows orderly none so_far step n script before images ahead later printed rest mode orderly_later h told =
    let first = so_far n script before images ahead later printed rest mode orderly_later h told in
    let next = held_next show n script before mid m ahead (requests_held (b ∷ left) ++ later) j first.0 (printed ++ first.1) rest b left none first.2 in
    let second = step n script before first.0 ahead (requests_held left ++ later) (printed ++ first.1) (λ plan st. then_course (run_held plan left st) (rest plan)) mode
    (subst (λ (r : List Row). AllByRecursion (IsOrderlyBatch (rows_tell_apart r)) (requests_held left ++ later)) (sym rows) (all_append (IsOrderlyBatch (rows_tell_apart s.rows)) (requests_held left) later orderly orderly_later)) next first.3 in (
      second.0,
      first.1 ++ second.1,
      subst (λ (text : List ℕ). IsCourseAt show n script before now g ahead (requests_held left ++ later) new second.0 text (λ plan st. then_course (run_held plan left st) (rest plan))) (append_assoc printed first.1 second.1) second.2,
      second.3,
      Appends-both holds mid_holds new_holds first.1 second.1 first.4 second.4,
    )

pub held_cut : {w : Stopping} → (show : Show) (failmode : Failmode) (s mid : Standing) (f m : SeenFold) (held left : List Batch) (b : Batch) (old j new : Journal) (tells mid_tells new_tells : Images → Type 0) (holds mid_holds new_holds : List ℕ → Type 0) (fault : RunFault)
    → mid.rows ≡ s.rows → mid.tops ≡ s.tops → AllByRecursion (IsOrderlyBatch (rows_tell_apart s.rows)) (requests_held left) → has_trees m.suspended ≡ false
    → HeldRan show failmode s mid f m held (b ∷ left) old j tells mid_tells holds mid_holds
    → StepCut show failmode mid m (b.requests ∷ []) j new mid_tells new_tells w mid_holds new_holds (λ ahead plan st. run_batch plan b st) fault
    → StepCut show failmode s f (requests_held held) old new tells new_tells w holds new_holds (λ ahead plan st. run_held plan held st) fault
held_cut {w = w} show failmode s mid f m held left b old j new tells mid_tells new_tells holds mid_holds new_holds fault rows tops orderly none so_far step n script before images ahead later printed rest mode orderly_later h told =
    let first = so_far n script before images ahead later printed rest mode orderly_later h told in
    let next = held_next show n script before mid m ahead (requests_held (b ∷ left) ++ later) j first.0 (printed ++ first.1) rest b left none first.2 in
    let second = step n script before first.0 ahead (requests_held left ++ later) (printed ++ first.1) (λ plan st. then_course (run_held plan left st) (rest plan)) mode
    (subst (λ (r : List Row). AllByRecursion (IsOrderlyBatch (rows_tell_apart r)) (requests_held left ++ later)) (sym rows) (all_append (IsOrderlyBatch (rows_tell_apart s.rows)) (requests_held left) later orderly orderly_later)) next first.3 in (
      second.0,
      second.1,
      subst (λ (t : List Top). IsCut show n script before t w fault new second.0 second.1) tops second.2,
      second.3,
      written_then fault holds mid_holds new_holds printed first.1 second.1 first.4 second.4,
    )

-- ---- a run that can go on

waits_all : (P : Request → Type 0) (rs : List Request) (ls : List ReportLine) → AllByRecursion P rs → AllByRecursion P (waiting_of rs ls)
waits_all P [] ls h = tt
waits_all P (r ∷ rs) [] h = tt
waits_all P (r ∷ rs) (l ∷ ls) h = all_append P (waiting_by l.result r) (waiting_of rs ls) (own l.result) (waits_all P rs ls h.1)
  where
    own : (x : LineResult) → AllByRecursion P (waiting_by x r)
    own Suspended = (h.0, tt)
    own (Failed e) = tt
    own Done = tt
    own (Sized n) = tt
    own (Bytes bytes) = tt

waits_rising : (rs : List Request) (ls : List ReportLine) → AreRising rs → AreRising (waiting_of rs ls)
waits_rising [] ls h = tt
waits_rising (r ∷ rs) [] h = tt
waits_rising (r ∷ rs) (l ∷ ls) h = own l.result (waits_all (λ (q : Request). r.number < q.number) rs ls h.0) (waits_rising rs ls h.1)
  where
    own : (x : LineResult) → AllByRecursion (λ (q : Request). r.number < q.number) (waiting_of rs ls) → AreRising (waiting_of rs ls) → AreRising (waiting_by x r ++ waiting_of rs ls)
    own Suspended above rest = (above, rest)
    own (Failed e) above rest = rest
    own Done above rest = rest
    own (Sized n) above rest = rest
    own (Bytes bytes) above rest = rest

-- of a round's requests those that wait are left
pub rising_waits : (front own back : List Request) (ls : List ReportLine) → AreRising (front ++ (own ++ back)) → AreRising ((front ++ waiting_of own ls) ++ back)
rising_waits front own back ls up =
    let outer = rising_both front (own ++ back) up in
    let inner = rising_both own back outer.1 in
    let some : List Request = waiting_of own ls in
    let back_above : AllByRecursion (λ (x : Request). AllByRecursion (λ (y : Request). x.number < y.number) back) some = waits_all (λ (x : Request). AllByRecursion (λ (y : Request). x.number < y.number) back) own ls inner.2 in
    subst AreRising (sym (append_assoc front some back))
    (rising_join front (some ++ back) outer.0 (rising_join some back (waits_rising own ls inner.0) inner.1 back_above)
    (all_weaker (λ (x : Request). AllByRecursion (λ (y : Request). x.number < y.number) (own ++ back)) (λ (x : Request). AllByRecursion (λ (y : Request). x.number < y.number) (some ++ back)) front
    (λ x low. (let parts = all_parts_of (λ (y : Request). x.number < y.number) own back low in all_append (λ (y : Request). x.number < y.number) some back (waits_all (λ (y : Request). x.number < y.number) own ls parts.0) parts.1)) outer.2))
  where
    all_parts_of : (P : Request → Type 0) (xs ys : List Request) → AllByRecursion P (xs ++ ys) → AllByRecursion P xs × AllByRecursion P ys
    all_parts_of P [] ys h = (tt, h)
    all_parts_of P (x ∷ xs) ys h = let rest = all_parts_of P xs ys h.1 in ((h.0, rest.0), rest.1)

-- after the round of the first held batch
pub going_batch : (fits : Tree → Type 0) (s now : Standing) (rounds next : ℕ) (f g : SeenFold) (b : Batch) (held : List Batch) (later : List (List Request)) (spare : ℕ) (ls : List ReportLine)
    → IsGoing fits s rounds f (b ∷ held) later spare → IsSteady fits now next g → now.rows ≡ s.rows → next ≡ rounds + 1
    → g.unfinished ≡ f.unfinished ++ waiting_of b.requests ls
    → g.tally.good + g.tally.bad + length g.unfinished ≡ f.tally.good + f.tally.bad + length f.unfinished + length b.requests
    → IsGoing fits now next g held later spare
going_batch fits s now rounds next f g b held later spare ls going steady rows next_is unfinished_is few_is =
    let back : List Request = requests_in_all (requests_held held ++ later) in
    let a : length (f.unfinished ++ (b.requests ++ back)) ≡ length f.unfinished + length (b.requests ++ back) = length-append f.unfinished (b.requests ++ back) in
    let d = length-append b.requests back in
    let e = length-append g.unfinished back in
    let most = going.few in
    let fit = going.rounds_fit in
    record {
      steady = steady;
      rising = subst (λ (us : List Request). AreRising (us ++ back)) (sym unfinished_is) (rising_waits f.unfinished b.requests back ls going.rising);
      orderly = subst (λ (r : List Row). AllByRecursion (IsOrderlyBatch (rows_tell_apart r)) (requests_held held ++ later)) (sym rows) going.orderly.1;
      numbers = going.numbers.1;
      rounds_fit = omega arith;
      few = omega arith;
    }

pub held_over : (show : Show) (failmode : Failmode) (s now : Standing) (f g : SeenFold) (held left : List Batch) (old new : Journal) (tells new_tells : Images → Type 0) (holds new_holds : List ℕ → Type 0)
    → (has_trees g.suspended ≡ true) ⊎ (left ≡ [])
    → HeldRan show failmode s now f g held left old new tells new_tells holds new_holds
    → StepRan show failmode s now f g (λ ahead. record ahead { held = left }) (requests_held held) (requests_held left) old new tells new_tells holds new_holds (λ ahead plan st. run_held plan held st)
held_over show failmode s now f g held left old new tells new_tells holds new_holds why ran n script before images ahead later printed rest mode orderly h told =
    let x = ran n script before images ahead later printed rest mode orderly h told in
    (x.0, x.1, held_end show n script before now g ahead (requests_held left ++ later) new x.0 (printed ++ x.1) rest left why x.2, x.3, x.4)

pub not_empty : {T : Type 0} (r : Bool) (xs : List T) → (xs ≡ [] → r ≡ true) → r ≡ false → has_items xs ≡ true
not_empty r [] h e = absurd (let no = sym e ∙ h refl in cc)
not_empty r (x ∷ xs) h e = refl

pub nil_of : {T : Type 0} (xs : List T) → length xs ≡ 0 → xs ≡ []
nil_of [] h = refl
nil_of (x ∷ xs) h = absurd (omega arith)

pub by_same : (r : Result Unit RunFault) (fault : RunFault) (P : RunFault → Type 0) → IsErrAnd r (λ e. e ≡ fault) → P fault → IfErr r P
by_same (Ok x) fault P is h = tt
by_same (Err e) fault P is h = subst P (sym is) h

pub first_two : (front own back : List Request) → AreRising (front ++ (own ++ back)) → AreRising (front ++ own)
first_two front own back up =
    let outer = rising_both front (own ++ back) up in
    let inner = rising_both own back outer.1 in
    rising_join front own outer.0 inner.0
    (all_weaker (λ (x : Request). AllByRecursion (λ (y : Request). x.number < y.number) (own ++ back)) (λ (x : Request). AllByRecursion (λ (y : Request). x.number < y.number) own) front
    (λ x low. front_all (λ (y : Request). x.number < y.number) own low) outer.2)
  where
    front_all : (P : Request → Type 0) (xs : List Request) → AllByRecursion P (xs ++ back) → AllByRecursion P xs
    front_all P [] h = tt
    front_all P (x ∷ xs) h = (h.0, front_all P xs h.1)

pub first_fits : (rounds held spare : ℕ) → rounds + (suc held) + spare < 2 ^ 32 → rounds + 1 < 2 ^ 32
first_fits rounds held spare h = omega arith

pub first_few : (n : ℕ) (front own back : List Request) → n + length (front ++ (own ++ back)) < 2 ^ 32 → n + length own < 2 ^ 32
first_few n front own back h = let a = length-append front (own ++ back) in let b = length-append own back in omega arith

pub held_orderly : (fits : Tree → Type 0) (s mid : Standing) (rounds : ℕ) (f : SeenFold) (b : Batch) (held : List Batch) (later : List (List Request)) (spare : ℕ) → mid.rows ≡ s.rows → IsGoing fits mid rounds f (b ∷ held) later spare
    → AllByRecursion (IsOrderlyBatch (rows_tell_apart s.rows)) (requests_held held)
held_orderly fits s mid rounds f b held later spare rows h = front_of (requests_held held) (subst (λ (r : List Row). AllByRecursion (IsOrderlyBatch (rows_tell_apart r)) (requests_held held ++ later)) rows h.orderly.1)
  where
    front_of : (xs : List (List Request)) → AllByRecursion (IsOrderlyBatch (rows_tell_apart s.rows)) (xs ++ later) → AllByRecursion (IsOrderlyBatch (rows_tell_apart s.rows)) xs
    front_of [] k = tt
    front_of (x ∷ xs) k = (k.0, front_of xs k.1)

-- ---- a clear

clear_quiet : (plan : Plan) (st : State) (rest : State → Course) → has_trees st.suspended ≡ false → then_course (clear_if (has_trees st.suspended) plan st) rest ≡ rest st
clear_quiet plan st rest none = ap (λ (b : Bool). then_course (clear_if b plan st) rest) none

clear_runs : (plan : Plan) (st : State) (rest : State → Course) → has_trees st.suspended ≡ true → then_course (clear_if (has_trees st.suspended) plan st) rest ≡ then_course (run_suspended plan st) rest
clear_runs plan st rest some = ap (λ (b : Bool). then_course (clear_if b plan st) rest) some

pub waiting_none : (show : Show) (failmode : Failmode) (s : Standing) (f : SeenFold) (old : Journal) (tells : Images → Type 0) (holds : List ℕ → Type 0) → has_trees f.suspended ≡ false
    → StepRan show failmode s s f f (λ a. a) [] [] old old tells tells holds holds (λ ahead plan st. clear_if (has_trees st.suspended) plan st)
waiting_none show failmode s f old tells holds none n script before images ahead later printed rest mode orderly h told = (
  images,
  [],
  subst (λ (text : List ℕ). IsCourseAt show n script before s f ahead later old images text rest) (sym (append-nil printed))
      (course_same show n script before s f ahead later old images printed (λ plan st. then_course (clear_if (has_trees st.suspended) plan st) (rest plan)) rest h
      (λ js. clear_quiet (plan_of script before js) h.state (rest (plan_of script before js)) (ap has_trees h.at.suspended_is ∙ none))),
  told,
  Appends-none holds,
)

pub waiting_some : (show : Show) (failmode : Failmode) (s now : Standing) (f g : SeenFold) (old new : Journal) (tells new_tells : Images → Type 0) (holds new_holds : List ℕ → Type 0) → has_trees f.suspended ≡ true
    → StepRan show failmode s now f g (λ a. a) [] [] old new tells new_tells holds new_holds (λ ahead plan st. run_suspended plan st)
    → StepRan show failmode s now f g (λ a. a) [] [] old new tells new_tells holds new_holds (λ ahead plan st. clear_if (has_trees st.suspended) plan st)
waiting_some show failmode s now f g old new tells new_tells holds new_holds some step n script before images ahead later printed rest mode orderly h told =
    step n script before images ahead later printed rest mode orderly
    (course_same show n script before s f ahead later old images printed (λ plan st. then_course (clear_if (has_trees st.suspended) plan st) (rest plan)) (λ plan st. then_course (run_suspended plan st) (rest plan)) h
    (λ js. clear_runs (plan_of script before js) h.state (rest (plan_of script before js)) (ap has_trees h.at.suspended_is ∙ some))) told

pub waiting_cut : {w : Stopping} → (show : Show) (failmode : Failmode) (s : Standing) (f : SeenFold) (old new : Journal) (tells new_tells : Images → Type 0) (holds new_holds : List ℕ → Type 0) (fault : RunFault) → has_trees f.suspended ≡ true
    → StepCut show failmode s f [] old new tells new_tells w holds new_holds (λ ahead plan st. run_suspended plan st) fault
    → StepCut show failmode s f [] old new tells new_tells w holds new_holds (λ ahead plan st. clear_if (has_trees st.suspended) plan st) fault
waiting_cut show failmode s f old new tells new_tells holds new_holds fault some step n script before images ahead later printed rest mode orderly h told =
    step n script before images ahead later printed rest mode orderly
    (course_same show n script before s f ahead later old images printed (λ plan st. then_course (clear_if (has_trees st.suspended) plan st) (rest plan)) (λ plan st. then_course (run_suspended plan st) (rest plan)) h
    (λ js. clear_runs (plan_of script before js) h.state (rest (plan_of script before js)) (ap has_trees h.at.suspended_is ∙ some))) told

pub going_less : (fits : Tree → Type 0) (s : Standing) (rounds : ℕ) (f : SeenFold) (held : List Batch) (later : List (List Request)) (spare : ℕ) → IsGoing fits s rounds f held later (spare + 1) → IsGoing fits s rounds f held later spare
going_less fits s rounds f held later spare h = record { steady = h.steady; rising = h.rising; orderly = h.orderly; numbers = h.numbers; rounds_fit = let fit = h.rounds_fit in omega arith; few = h.few }

pub going_clear : (fits : Tree → Type 0) (s now : Standing) (rounds next : ℕ) (f g : SeenFold) (held : List Batch) (later : List (List Request)) (spare : ℕ) (ls : List ReportLine)
    → IsGoing fits s rounds f held later (spare + 1) → IsSteady fits now next g → now.rows ≡ s.rows → next ≡ rounds + 1
    → g.unfinished ≡ waiting_of f.unfinished ls
    → g.tally.good + g.tally.bad + length g.unfinished ≡ f.tally.good + f.tally.bad + length f.unfinished
    → IsGoing fits now next g held later spare
going_clear fits s now rounds next f g held later spare ls going steady rows next_is unfinished_is few_is =
    let back : List Request = requests_in_all (requests_held held ++ later) in
    let none : List Request = [] in
    let a = length-append f.unfinished back in
    let e = length-append g.unfinished back in
    let most = going.few in
    let fit = going.rounds_fit in
    record {
      steady = steady;
      rising = subst (λ (us : List Request). AreRising (us ++ back)) (sym unfinished_is) (rising_waits none f.unfinished back ls going.rising);
      orderly = subst (λ (r : List Row). AllByRecursion (IsOrderlyBatch (rows_tell_apart r)) (requests_held held ++ later)) (sym rows) going.orderly;
      numbers = going.numbers;
      rounds_fit = omega arith;
      few = omega arith;
    }

-- the resume point rises
pub going_raised : (fits : Tree → Type 0) (s : Standing) (rounds : ℕ) (f : SeenFold) (held : List Batch) (later : List (List Request)) (spare point : ℕ) → IsGoing fits s rounds f held later spare → IsGoing fits s rounds (record f { point = point }) held later spare
going_raised fits s rounds f held later spare point h = record {
  steady = record { fits_all = h.steady.fits_all; live = h.steady.live; inside = h.steady.inside; waits = h.steady.waits; awaited = h.steady.awaited; runs = h.steady.runs; last = h.steady.last; sums = h.steady.sums };
  rising = h.rising;
  orderly = h.orderly;
  numbers = h.numbers;
  rounds_fit = h.rounds_fit;
  few = h.few;
}

state_raised : (st : State) (held : List Batch) (batch : List Request) (batches point : ℕ) → st.held ≡ held → st.batch ≡ batch → st.batches ≡ batches → st.point ≡ point
    → record st { point = st.point + 1 } ≡ record st { held = held; batch = batch; batches = batches; point = point + 1 }
state_raised st held batch batches point a b d e =
    ap (λ (x : List Batch). record st { held = x; point = st.point + 1 }) a
    ∙ (ap (λ (x : List Request). record st { held = held; batch = x; point = st.point + 1 }) b
    ∙ (ap (λ (x : ℕ). record st { held = held; batch = batch; batches = x; point = st.point + 1 }) d
    ∙ ap (λ (x : ℕ). record st { held = held; batch = batch; batches = batches; point = x + 1 }) e))

-- the suspended trees are next, and then the held batches
pub clear_first : (show : Show) (n : RunSize) (script : Script) (before : Images) (s : Standing) (f : SeenFold) (ahead : Ahead) (later : List (List Request)) (old : Journal) (images : Images) (printed : List ℕ) (rest : Plan → State → Course)
    → IsCourseAt show n script before s f ahead later old images printed (λ plan st. then_course (clear_line plan st) (rest plan))
    → IsCourseAt show n script before s (record f { point = f.point + 1 }) ahead later old images printed (λ plan st. then_course (clear_if (has_trees st.suspended) plan st) (λ now. then_course (run_held plan now.held now) (rest plan)))
clear_first show n script before s f ahead later old images printed rest h =
    course_moved show n script before s f ahead later old images printed (λ plan st. then_course (clear_line plan st) (rest plan))
    (λ plan st. then_course (clear_if (has_trees st.suspended) plan st) (λ now. then_course (run_held plan now.held now) (rest plan))) ahead.held ahead.batch ahead.batches (f.point + 1) h
    (λ js. course_assoc (clear_if (has_trees h.state.suspended) (plan_of script before js) (record h.state { point = h.state.point + 1 })) (held_after (plan_of script before js)) (rest (plan_of script before js))
    ∙ ap (λ (st : State). then_course (clear_if (has_trees h.state.suspended) (plan_of script before js) st) (λ now. then_course (run_held (plan_of script before js) now.held now) (rest (plan_of script before js))))
    (state_raised h.state ahead.held ahead.batch ahead.batches f.point h.held h.batch h.batches h.at.point_is))

pub held_are : (show : Show) (n : RunSize) (script : Script) (before : Images) (s : Standing) (f : SeenFold) (ahead : Ahead) (later : List (List Request)) (old : Journal) (images : Images) (printed : List ℕ) (rest : Plan → State → Course)
    → IsCourseAt show n script before s f ahead later old images printed (λ plan st. then_course (run_held plan st.held st) (rest plan))
    → IsCourseAt show n script before s f ahead later old images printed (λ plan st. then_course (run_held plan ahead.held st) (rest plan))
held_are show n script before s f ahead later old images printed rest h =
    course_same show n script before s f ahead later old images printed (λ plan st. then_course (run_held plan st.held st) (rest plan)) (λ plan st. then_course (run_held plan ahead.held st) (rest plan)) h
    (λ js. ap (λ (bs : List Batch). then_course (run_held (plan_of script before js) bs h.state) (rest (plan_of script before js))) h.held)

pub line_clear : (show : Show) (failmode : Failmode) (s mid now : Standing) (f m g : SeenFold) (held left : List Batch) (batch : List Request) (batches : ℕ) (old j new : Journal) (tells mid_tells new_tells : Images → Type 0) (holds mid_holds new_holds : List ℕ → Type 0)
    → mid.rows ≡ s.rows → AllByRecursion (IsOrderlyBatch (rows_tell_apart s.rows)) (requests_held held)
    → StepRan show failmode s mid (record f { point = f.point + 1 }) m (λ a. a) [] [] old j tells mid_tells holds mid_holds (λ ahead plan st. clear_if (has_trees st.suspended) plan st)
    → StepRan show failmode mid now m g (λ ahead. record ahead { held = left }) (requests_held held) (requests_held left) j new mid_tells new_tells mid_holds new_holds (λ ahead plan st. run_held plan held st)
    → LineRan show failmode s now f g (record { held = held; batch = batch; batches = batches }) (record { held = left; batch = batch; batches = batches }) (requests_held held) (requests_held left)
    old new tells new_tells holds new_holds clear_line
line_clear show failmode s mid now f m g held left batch batches old j new tells mid_tells new_tells holds mid_holds new_holds rows orderly waiting runs n script before images later printed rest mode orderly_later h told =
    let ahead : Ahead = record { held = held; batch = batch; batches = batches } in
    let first = waiting n script before images ahead (requests_held held ++ later) printed (λ plan st. then_course (run_held plan st.held st) (rest plan)) mode
    (all_append (IsOrderlyBatch (rows_tell_apart s.rows)) (requests_held held) later orderly orderly_later)
    (clear_first show n script before s f ahead (requests_held held ++ later) old images printed rest h) told in
    let second = runs n script before first.0 ahead later (printed ++ first.1) rest mode (subst (λ (r : List Row). AllByRecursion (IsOrderlyBatch (rows_tell_apart r)) later) (sym rows) orderly_later)
    (held_are show n script before mid m ahead (requests_held held ++ later) j first.0 (printed ++ first.1) rest first.2) first.3 in (
      second.0,
      first.1 ++ second.1,
      subst (λ (text : List ℕ). IsCourseAt show n script before now g (record ahead { held = left }) (requests_held left ++ later) new second.0 text rest) (append_assoc printed first.1 second.1) second.2,
      second.3,
      Appends-both holds mid_holds new_holds first.1 second.1 first.4 second.4,
    )

pub line_clear_cut : {w : Stopping} → (show : Show) (failmode : Failmode) (s mid : Standing) (f m : SeenFold) (held : List Batch) (batch : List Request) (batches : ℕ) (old j new : Journal) (tells mid_tells new_tells : Images → Type 0) (holds mid_holds new_holds : List ℕ → Type 0) (fault : RunFault)
    → mid.rows ≡ s.rows → mid.tops ≡ s.tops → AllByRecursion (IsOrderlyBatch (rows_tell_apart s.rows)) (requests_held held)
    → StepRan show failmode s mid (record f { point = f.point + 1 }) m (λ a. a) [] [] old j tells mid_tells holds mid_holds (λ ahead plan st. clear_if (has_trees st.suspended) plan st)
    → StepCut show failmode mid m (requests_held held) j new mid_tells new_tells w mid_holds new_holds (λ ahead plan st. run_held plan held st) fault
    → LineCut show failmode s f (record { held = held; batch = batch; batches = batches }) (requests_held held) old new tells new_tells w holds new_holds clear_line fault
line_clear_cut {w = w} show failmode s mid f m held batch batches old j new tells mid_tells new_tells holds mid_holds new_holds fault rows tops orderly waiting runs n script before images later printed rest mode orderly_later h told =
    let ahead : Ahead = record { held = held; batch = batch; batches = batches } in
    let first = waiting n script before images ahead (requests_held held ++ later) printed (λ plan st. then_course (run_held plan st.held st) (rest plan)) mode
    (all_append (IsOrderlyBatch (rows_tell_apart s.rows)) (requests_held held) later orderly orderly_later)
    (clear_first show n script before s f ahead (requests_held held ++ later) old images printed rest h) told in
    let second = runs n script before first.0 ahead later (printed ++ first.1) rest mode (subst (λ (r : List Row). AllByRecursion (IsOrderlyBatch (rows_tell_apart r)) later) (sym rows) orderly_later)
    (held_are show n script before mid m ahead (requests_held held ++ later) j first.0 (printed ++ first.1) rest first.2) first.3 in (
      second.0,
      second.1,
      subst (λ (t : List Top). IsCut show n script before t w fault new second.0 second.1) tops second.2,
      second.3,
      written_then fault holds mid_holds new_holds printed first.1 second.1 first.4 second.4,
    )

pub line_waiting_cut : {w : Stopping} → (show : Show) (failmode : Failmode) (s : Standing) (f : SeenFold) (held : List Batch) (batch : List Request) (batches : ℕ) (old new : Journal) (tells new_tells : Images → Type 0) (holds new_holds : List ℕ → Type 0) (fault : RunFault)
    → AllByRecursion (IsOrderlyBatch (rows_tell_apart s.rows)) (requests_held held)
    → StepCut show failmode s (record f { point = f.point + 1 }) [] old new tells new_tells w holds new_holds (λ ahead plan st. clear_if (has_trees st.suspended) plan st) fault
    → LineCut show failmode s f (record { held = held; batch = batch; batches = batches }) (requests_held held) old new tells new_tells w holds new_holds clear_line fault
line_waiting_cut show failmode s f held batch batches old new tells new_tells holds new_holds fault orderly waiting n script before images later printed rest mode orderly_later h told =
    waiting n script before images (record { held = held; batch = batch; batches = batches }) (requests_held held ++ later) printed (λ plan st. then_course (run_held plan st.held st) (rest plan)) mode
    (all_append (IsOrderlyBatch (rows_tell_apart s.rows)) (requests_held held) later orderly orderly_later)
    (clear_first show n script before s f (record { held = held; batch = batch; batches = batches }) (requests_held held ++ later) old images printed rest h) told

pub all_held : (fits : Tree → Type 0) (s : Standing) (rounds : ℕ) (f : SeenFold) (held : List Batch) (later : List (List Request)) (spare : ℕ) → IsGoing fits s rounds f held later spare → AllByRecursion (IsOrderlyBatch (rows_tell_apart s.rows)) (requests_held held)
all_held fits s rounds f held later spare h = front_of (requests_held held) h.orderly
  where
    front_of : (xs : List (List Request)) → AllByRecursion (IsOrderlyBatch (rows_tell_apart s.rows)) (xs ++ later) → AllByRecursion (IsOrderlyBatch (rows_tell_apart s.rows)) xs
    front_of [] k = tt
    front_of (x ∷ xs) k = (k.0, front_of xs k.1)

pub ok_step : (r : Result Unit RunFault) (A B : Type 0) → (A → B) → OnOk r A → OnOk r B
ok_step (Ok x) A B k h = k h
ok_step (Err e) A B k h = tt

pub err_step : (r : Result Unit RunFault) (P Q : RunFault → Type 0) → ((e : RunFault) → P e → Q e) → IfErr r P → IfErr r Q
err_step (Ok x) P Q k h = tt
err_step (Err e) P Q k h = k e h

-- ---- a go

go_state : (st : State) (held : List Batch) (batches point : ℕ) → st.held ≡ held → st.batches ≡ batches → st.point ≡ point
    → record st { batch = []; batches = st.batches + 1 } ≡ record st { held = held; batch = []; batches = batches + 1; point = point }
go_state st held batches point a d e =
    ap (λ (x : List Batch). record st { held = x; batch = []; batches = st.batches + 1 }) a
    ∙ (ap (λ (x : ℕ). record st { held = held; batch = []; batches = x + 1 }) d
    ∙ ap (λ (x : ℕ). record st { held = held; batch = []; batches = batches + 1; point = x }) e)

pub go_first : (show : Show) (n : RunSize) (script : Script) (before : Images) (s : Standing) (f : SeenFold) (ahead : Ahead) (later : List (List Request)) (old : Journal) (images : Images) (printed : List ℕ) (rest : Plan → State → Course) (b : Bool)
    → (not (has_trees f.suspended) || goes_on script.failmode) ≡ b
    → IsCourseAt show n script before s f ahead later old images printed (λ plan st. then_course (go_line plan st) (rest plan))
    → IsCourseAt show n script before s f (record { held = ahead.held; batch = []; batches = ahead.batches + 1 }) later old images printed
    (λ plan st. then_course (go_if b plan (record { number = ahead.batches + 1; requests = ahead.batch }) st) (rest plan))
go_first show n script before s f ahead later old images printed rest b is h =
    course_moved show n script before s f ahead later old images printed (λ plan st. then_course (go_line plan st) (rest plan))
    (λ plan st. then_course (go_if b plan (record { number = ahead.batches + 1; requests = ahead.batch }) st) (rest plan)) ahead.held [] (ahead.batches + 1) f.point h
    (λ js.
    (let plan : Plan = plan_of script before js in
    let st : State = record h.state { batch = []; batches = h.state.batches + 1 } in
    let to : State = record h.state { held = ahead.held; batch = []; batches = ahead.batches + 1; point = f.point } in
    let same : (not (has_trees h.state.suspended) || goes_on script.failmode) ≡ b = ap (λ (ts : List (List Pending)). not (has_trees ts) || goes_on script.failmode) h.at.suspended_is ∙ is in
    ap (λ (x : Bool). then_course (go_if x plan (record { number = h.state.batches + 1; requests = h.state.batch }) st) (rest plan)) same
    ∙ (ap (λ (x : ℕ). then_course (go_if b plan (record { number = x + 1; requests = h.state.batch }) st) (rest plan)) h.batches
    ∙ (ap (λ (x : List Request). then_course (go_if b plan (record { number = ahead.batches + 1; requests = x }) st) (rest plan)) h.batch
    ∙ ap (λ (x : State). then_course (go_if b plan (record { number = ahead.batches + 1; requests = ahead.batch }) x) (rest plan)) (go_state h.state ahead.held ahead.batches f.point h.held h.batches h.at.point_is)))))

-- a batch more is held
pub go_held : (show : Show) (n : RunSize) (script : Script) (before : Images) (s : Standing) (f : SeenFold) (ahead : Ahead) (later : List (List Request)) (old : Journal) (images : Images) (printed : List ℕ) (rest : Plan → State → Course) (batch : Batch)
    → IsCourseAt show n script before s f ahead later old images printed (λ plan st. then_course (held_batch batch st) (rest plan))
    → IsCourseAt show n script before s f (record ahead { held = ahead.held ++ batch ∷ [] }) later old images (printed ++ shown_of show (held_text batch.number)) rest
go_held show n script before s f ahead later old images printed rest batch h =
    let events : List Event = h.events ++ HeldBatch batch.number ∷ [] in
    let same : rounds_of h.events ≡ rounds_of events = sym (rounds_held h.events batch.number) in
    record {
      events = events;
      state = record h.state { held = h.state.held ++ batch ∷ [] };
      reached = λ more than. h.reached more than ∙ sym (events_both h.events (HeldBatch batch.number ∷ []) (rest (plan_of script before (old.places ++ more)) (record h.state { held = h.state.held ++ batch ∷ [] })));
      entered = so_far_held show n (sizes_of s.tops) (requests_of script.items) old h.events printed batch.number h.entered;
      plan = h.plan;
      at = record { names = h.at.names; used = h.at.used; suspended_is = h.at.suspended_is; rounds_is = h.at.rounds_is; point_is = h.at.point_is; images_are = h.at.images_are };
      once = h.once;
      held = ap (λ (bs : List Batch). bs ++ batch ∷ []) h.held;
      batch = h.batch;
      batches = h.batches;
      panicked = h.panicked;
      images_are = h.images_are ∙ ap (images_after before) same;
      names_are = h.names_are ∙ ap (names_after []) same;
      good = h.good ∙ ap (λ (rs : List Round). length (filter (λ (e : Ended). is_none e.error) (flat_map (λ (r : Round). r.ended) rs))) same;
      bad = h.bad ∙ ap (λ (rs : List Round). length (filter (λ (e : Ended). is_some e.error) (flat_map (λ (r : Round). r.ended) rs))) same;
      read = h.read ∙ ap (λ (rs : List Round). sum_by (λ (e : Ended). length e.bytes) (filter (λ (e : Ended). is_none e.error) (flat_map (λ (r : Round). r.ended) rs))) same;
      parents = h.parents;
      up = h.up;
      rising = h.rising;
      among = h.among;
      past = h.past;
    }

held_both : (held : List Batch) (b : Batch) (later : List (List Request)) → requests_held (held ++ b ∷ []) ++ later ≡ requests_held held ++ (b.requests ∷ later)
held_both [] b later = refl
held_both (x ∷ held) b later = ap (λ (rs : List (List Request)). x.requests ∷ rs) (held_both held b later)

own_both : (held : List (List Request)) (rs : List Request) (later : List (List Request)) → (held ++ rs ∷ []) ++ later ≡ held ++ (rs ∷ later)
own_both held rs later = append_assoc held (rs ∷ []) later

-- one batch more, which was to come next
pub going_take : (fits : Tree → Type 0) (s : Standing) (rounds : ℕ) (f : SeenFold) (held : List Batch) (b : Batch) (later : List (List Request)) (spare : ℕ) → 1 ≤ b.number
    → IsGoing fits s rounds f held (b.requests ∷ later) (spare + 1) → IsGoing fits s rounds f (held ++ b ∷ []) later spare
going_take fits s rounds f held b later spare number h = record {
  steady = h.steady;
  rising = subst (λ (bs : List (List Request)). AreRising (coming f.unfinished bs)) (sym (held_both held b later)) h.rising;
  orderly = subst (AllByRecursion (IsOrderlyBatch (rows_tell_apart s.rows))) (sym (held_both held b later)) h.orderly;
  numbers = all_append (λ (x : Batch). 1 ≤ x.number) held (b ∷ []) h.numbers (number, tt);
  rounds_fit = let a = length-append held (b ∷ []) in let fit = h.rounds_fit in omega arith;
  few = subst (λ (bs : List (List Request)). f.tally.good + f.tally.bad + length (coming f.unfinished bs) < 2 ^ 32) (sym (held_both held b later)) h.few;
}

pub line_runs : (show : Show) (failmode : Failmode) (s now : Standing) (f g : SeenFold) (held : List Batch) (b : Batch) (batches : ℕ) (old new : Journal) (tells new_tells : Images → Type 0) (holds new_holds : List ℕ → Type 0)
    → (not (has_trees f.suspended) || goes_on failmode) ≡ true → held ≡ [] → b.number ≡ batches + 1
    → StepRan show failmode s now f g (λ a. a) (b.requests ∷ []) [] old new tells new_tells holds new_holds (λ ahead plan st. run_batch plan b st)
    → LineRan show failmode s now f g (record { held = held; batch = b.requests; batches = batches }) (record { held = held; batch = []; batches = batches + 1 }) (requests_held held ++ b.requests ∷ []) (requests_held held)
    old new tells new_tells holds new_holds go_line
line_runs show failmode s now f g held b batches old new tells new_tells holds new_holds runs none number step n script before images later printed rest mode orderly h told =
    subst (λ (bs : List Batch). (after : Images) × (more : List ℕ) × IsCourseAt show n script before now g (record { held = bs; batch = []; batches = batches + 1 }) (requests_held bs ++ later) new after (printed ++ more) rest × new_tells after × Appends holds new_holds more) (sym none)
    (step n script before images (record { held = []; batch = []; batches = batches + 1 }) later printed rest mode orderly
    (subst (λ (k : ℕ). IsCourseAt show n script before s f (record { held = []; batch = []; batches = batches + 1 }) (b.requests ∷ later) old images printed (λ plan st. then_course (run_batch plan (record { number = k; requests = b.requests }) st) (rest plan))) (sym number)
    (go_first show n script before s f (record { held = []; batch = b.requests; batches = batches }) (b.requests ∷ later) old images printed rest true
    (ap (λ (m : Failmode). not (has_trees f.suspended) || goes_on m) mode ∙ runs)
    (subst (λ (bs : List Batch). IsCourseAt show n script before s f (record { held = bs; batch = b.requests; batches = batches }) ((requests_held bs ++ b.requests ∷ []) ++ later) old images printed (λ plan st. then_course (go_line plan st) (rest plan))) none h))) told)

pub line_runs_cut : {w : Stopping} → (show : Show) (failmode : Failmode) (s : Standing) (f : SeenFold) (held : List Batch) (b : Batch) (batches : ℕ) (old new : Journal) (tells new_tells : Images → Type 0) (holds new_holds : List ℕ → Type 0) (fault : RunFault)
    → (not (has_trees f.suspended) || goes_on failmode) ≡ true → held ≡ [] → b.number ≡ batches + 1
    → StepCut show failmode s f (b.requests ∷ []) old new tells new_tells w holds new_holds (λ ahead plan st. run_batch plan b st) fault
    → LineCut show failmode s f (record { held = held; batch = b.requests; batches = batches }) (requests_held held ++ b.requests ∷ []) old new tells new_tells w holds new_holds go_line fault
line_runs_cut show failmode s f held b batches old new tells new_tells holds new_holds fault runs none number step n script before images later printed rest mode orderly h told =
    step n script before images (record { held = []; batch = []; batches = batches + 1 }) later printed rest mode orderly
    (subst (λ (k : ℕ). IsCourseAt show n script before s f (record { held = []; batch = []; batches = batches + 1 }) (b.requests ∷ later) old images printed (λ plan st. then_course (run_batch plan (record { number = k; requests = b.requests }) st) (rest plan))) (sym number)
    (go_first show n script before s f (record { held = []; batch = b.requests; batches = batches }) (b.requests ∷ later) old images printed rest true
    (ap (λ (m : Failmode). not (has_trees f.suspended) || goes_on m) mode ∙ runs)
    (subst (λ (bs : List Batch). IsCourseAt show n script before s f (record { held = bs; batch = b.requests; batches = batches }) ((requests_held bs ++ b.requests ∷ []) ++ later) old images printed (λ plan st. then_course (go_line plan st) (rest plan))) none h))) told

-- where the line is held
pub holds_at : (show : Show) (n : RunSize) (script : Script) (before : Images) (s : Standing) (f : SeenFold) (held : List Batch) (b : Batch) (batches : ℕ) (later : List (List Request)) (old : Journal) (images : Images) (printed : List ℕ) (rest : Plan → State → Course)
    → (not (has_trees f.suspended) || goes_on script.failmode) ≡ false → b.number ≡ batches + 1
    → IsCourseAt show n script before s f (record { held = held; batch = b.requests; batches = batches }) ((requests_held held ++ b.requests ∷ []) ++ later) old images printed (λ plan st. then_course (go_line plan st) (rest plan))
    → IsCourseAt show n script before s f (record { held = held ++ b ∷ []; batch = []; batches = batches + 1 }) (requests_held (held ++ b ∷ []) ++ later) old images (printed ++ shown_of show (held_text b.number)) rest
holds_at show n script before s f held b batches later old images printed rest waits number h =
    subst (λ (bs : List (List Request)). IsCourseAt show n script before s f (record { held = held ++ b ∷ []; batch = []; batches = batches + 1 }) bs old images (printed ++ shown_of show (held_text b.number)) rest)
    (own_both (requests_held held) b.requests later ∙ sym (held_both held b later))
    (go_held show n script before s f (record { held = held; batch = []; batches = batches + 1 }) ((requests_held held ++ b.requests ∷ []) ++ later) old images printed rest b
    (subst (λ (k : ℕ). IsCourseAt show n script before s f (record { held = held; batch = []; batches = batches + 1 }) ((requests_held held ++ b.requests ∷ []) ++ later) old images printed (λ plan st. then_course (held_batch (record { number = k; requests = b.requests }) st) (rest plan))) (sym number)
    (go_first show n script before s f (record { held = held; batch = b.requests; batches = batches }) ((requests_held held ++ b.requests ∷ []) ++ later) old images printed rest false waits h)))

pub ok_any : (r : Result Unit RunFault) (A : Type 0) → A → OnOk r A
ok_any (Ok x) A h = h
ok_any (Err e) A h = tt
