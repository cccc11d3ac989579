-- The round of a batch, and that of a `clear`, as one round more of a run.
use Rattle.std.proofs.Common.{◌≡◌, ℕ, ◌+◌, ◌<◌, List, [], ◌∷◌, ◌++◌, map, filter, reverse, Bool, true, false, ◌&&◌, ◌==◌, Option, Some, None, eq-eqb, refl, sym, ap, ◌∙◌, subst, inr, Contains, append_assoc}
use Rattle.std.specs.List.{AllByRecursion}
use Rattle.zio_types.specs.declared.error.Errno.{Errno}
use Rattle.zio_types.specs.declared.journal.Completion.{Completion}
use Rattle.zio_types.specs.declared.journal.Journal.{Journal}
use Rattle.zio_types.specs.Choices.{Choice}
use Rattle.zio_script.specs.declared.script.Item.{Item}
use Rattle.zio_script.specs.declared.script.Request.{Request}
use Rattle.zio_script.specs.declared.script.Script.{Script}
use Rattle.zio_script.specs.Accepted.{AreRising, IsOrderlyBatch}
use Rattle.zio_script.specs.Requests.{requests_of}
use Rattle.zio_script.specs.declared.script.Work.{Work}
use Rattle.zio_script.specs.declared.script.Work.TheVariants.{Null, Read, Write, Free, Claim}
use Rattle.zio_cksum.specs.Images.{Images}
use Rattle.zio_cksum.proofs.AllLemmas.{all_append, all_map, all_true, all_weaker}
use Rattle.zio_gang.specs.declared.tree.Tree.{Tree}
use Rattle.zio_gang.specs.Attempts.{Ended, Pending}
use Rattle.zio_gang.specs.Journals.{CompleteAfterChildren, CompleteOnce, choices_in}
use Rattle.zio_gang.specs.Runs.Event.{RanRound}
use Rattle.zio_gang.specs.Rounds.{admission, admit_with, answered_with, Admitted, Bound, NamesOnce, Ran, admitted, bind_made, bound_after, bound_by, bound_unless, is_bound, pending_trees, settle_each, trees_of}
use Rattle.zio_gang.specs.Runs.{Batch, Course, Plan, Round, State, after_round, has_trees, is_panic, plan_of, round_of, run_batch, run_suspended, terms_of, then_course}
use Rattle.zio_gang.proofs.BoundLemmas.{NamesOnce-bind, NamesOnce-unbind}
use Rattle.zio_gang.proofs.DependenceLemmas.{choices_law}
use Rattle.zio_report.specs.declared.report.ReportLine.{ReportLine}
use Rattle.zio_report.specs.declared.report.Show.{Show}
use Rattle.zio_report.specs.Lines.{round_text}
use Rattle.zio_report.specs.Reports.{RunSize}
use Rattle.zio_course.specs.declared.admission.Rules.{Rules}
use Rattle.zio_course.specs.declared.fold.Tally.{Tally}
use Rattle.zio_course.specs.declared.runner.RequestEnd.{RequestEnd}
use Rattle.zio_course.specs.Admissions.{IsAdmission, error_in}
use Rattle.zio_course.specs.Admitted.{AreAwaited}
use Rattle.zio_course.specs.Answered.{answer_of, answered_in}
use Rattle.zio_course.specs.Entered.{IsBatchRun}
use Rattle.zio_course.specs.Folds.{AreSuspended, SeenFold, counted_in, requests_in_all}
use Rattle.zio_course.specs.Forests.{names_of, running}
use Rattle.zio_course.specs.Live.{IsLive, IsRoundOver}
use Rattle.zio_course.specs.Names.{is_some_name}
use Rattle.zio_course.specs.Parents.{AreParented}
use Rattle.zio_course.specs.Runners.{IsRound, IsRoundEnd, SeenEnd, Standing, StandsAfter, completion_for, rows_tell_apart, terms_at}
use Rattle.zio_course.specs.SoFar.{Ahead, IsCourseAt, coming}
use Rattle.zio_course.specs.Steps.{IsNextRound, IsPlanOf}
use Rattle.zio_course.specs.Told.{no_error}
use Rattle.zio_course.proofs.ClearLemmas.{suspended_round}
use Rattle.zio_course.proofs.CompleteLemmas.{Completes, ends_complete, IsDone, IsOf, IsPast, Kin, back_all, below_batch, complete_next, kin_batch, kin_both, kin_unfinished, past_next, past_stays, round_completes}
use Rattle.zio_course.proofs.DoneLemmas.{contains_one}
use Rattle.zio_course.proofs.JoinLemmas.{rising_both, rising_join}
use Rattle.zio_course.proofs.JournalLemmas.{filter_whole}
use Rattle.zio_course.proofs.LiveLemmas.{live_after}
use Rattle.zio_course.proofs.OverLemmas.{batch_over}
use Rattle.zio_course.proofs.ParentLemmas.{batch_parented, ran_parented}
use Rattle.zio_course.proofs.RoundLemmas.{course_next, own_choices}
use Rattle.zio_course.proofs.SortLemmas.{IsOneOf, all_one, one_all, one_left, one_right}
use Rattle.zio_course.proofs.StepLemmas.{batch_round}
use Rattle.zio_course.proofs.SuspendedLemmas.{none_answered}
use Rattle.zio_course.proofs.TallyLemmas.{IsPlain, ran_plain, round_counts}
use Rattle.zio_course.proofs.WaitLemmas.{is_left}
use Rattle.zio_course.proofs.AdmittedLemmas.{rising_kept}
use Rattle.zio_course.proofs.RunnableLemmas.{kept}

-- ---- bound names stand once

once_made : (name : List ℕ) (tree : Option Tree) (bound : Bound) → NamesOnce bound → NamesOnce (bind_made name tree bound)
once_made name None bound h = h
once_made name (Some tree) bound h = NamesOnce-bind name tree bound h

once_by : (work : Work) (tree : Option Tree) (bound : Bound) → NamesOnce bound → NamesOnce (bound_by work tree bound)
once_by Null tree bound h = h
once_by (Read name prio) tree bound h = h
once_by (Write name sum copies prio body) tree bound h = once_made name tree bound h
once_by (Free name) tree bound h = NamesOnce-unbind name bound h
once_by (Claim name pointer) tree bound h = once_made name tree bound h

once_unless : (error : Option Errno) (e : Ended) (bound : Bound) → NamesOnce bound → NamesOnce (bound_unless error e bound)
once_unless None e bound h = once_by e.request.work e.tree bound h
once_unless (Some x) e bound h = h

once_after : (es : List Ended) (bound : Bound) → NamesOnce bound → NamesOnce (bound_after es bound)
once_after [] bound h = h
once_after (e ∷ es) bound h = once_after es (bound_unless e.error e bound) (once_unless e.error e bound h)

-- ---- the round is the same, whatever later rounds the journal holds

batch_same : (script : Script) (before : Images) (j k : List Choice) (batch : Batch) (st : State) → choices_in (st.rounds + 1) j ≡ choices_in (st.rounds + 1) k
    → run_batch (plan_of script before j) batch st ≡ run_batch (plan_of script before k) batch st
batch_same script before j k batch st own =
    let a : Admitted = admitted st.suspended (is_bound st.bound) (trees_of batch.requests) in
    ap (λ (ran : Ran). after_round (plan_of script before j) st st.suspended (round_of st (Some batch.number) a.answered ran))
    (choices_law j k (terms_of (plan_of script before j) st) (pending_trees st.bound batch.number a.trees) st.images own)

clear_same : (script : Script) (before : Images) (j k : List Choice) (st : State) → choices_in (st.rounds + 1) j ≡ choices_in (st.rounds + 1) k
    → run_suspended (plan_of script before j) st ≡ run_suspended (plan_of script before k) st
clear_same script before j k st own =
    ap (λ (ran : Ran). after_round (plan_of script before j) st [] (round_of st None [] ran))
    (choices_law j k (terms_of (plan_of script before j) st) st.suspended st.images own)

-- ---- completions of a round

answer_rounds : (o : Option Errno) (round : ℕ) (r : Request) → AllByRecursion (λ (c : Completion). c.round ≡ round) (answer_of o round r)
answer_rounds None round r = tt
answer_rounds (Some x) round r = (refl, tt)

answers_rounds : (error : ℕ → Option Errno) (round : ℕ) (rs : List Request) → AllByRecursion (λ (c : Completion). c.round ≡ round) (answered_in error round rs)
answers_rounds error round [] = tt
answers_rounds error round (r ∷ rs) = all_append (λ (c : Completion). c.round ≡ round) (answer_of (error r.number) round r) (answered_in error round rs) (answer_rounds (error r.number) round r) (answers_rounds error round rs)

ends_rounds : (s : Standing) (round : ℕ) (trees : List (List Pending)) (end : SeenEnd) → IsRoundEnd s round trees end → AllByRecursion (λ (c : Completion). c.round ≡ round) end.completions
ends_rounds s round trees end over =
    all_weaker (λ c. Contains (map (completion_for round) end.finished) c) (λ (c : Completion). c.round ≡ round) end.completions
    (λ c has. one_all (λ (d : Completion). d.round ≡ round) c (map (completion_for round) end.finished)
    (all_map (λ (d : Completion). d.round ≡ round) (completion_for round) end.finished (all_true (λ (f : RequestEnd). round ≡ round) end.finished (λ f. refl)))
    (contains_one c (map (completion_for round) end.finished) has)) over.completed

pub done_rounds : (s : Standing) (round : ℕ) (trees : List (List Pending)) (end : SeenEnd) (error : ℕ → Option Errno) (requests : List Request) → IsRoundEnd s round trees end
    → AllByRecursion (λ (c : Completion). c.round ≡ round) (reverse (answered_in error round requests) ++ end.completions)
done_rounds s round trees end error requests over =
    all_append (λ (c : Completion). c.round ≡ round) (reverse (answered_in error round requests)) end.completions
    (back_all (λ (c : Completion). c.round ≡ round) (answered_in error round requests) (answers_rounds error round requests)) (ends_rounds s round trees end over)

-- ---- what comes later

rising_mid : (front own back : List Request) (test : Request → Bool) → AreRising (front ++ (own ++ back)) → AreRising (front ++ (filter test own ++ back))
rising_mid front own back test up =
    let outer = rising_both front (own ++ back) up in
    let inner = rising_both own back outer.1 in
    rising_join front (filter test own ++ back) outer.0
    (rising_join (filter test own) back (rising_kept test own inner.0) inner.1
    (kept (λ (x : Request). AllByRecursion (λ (y : Request). x.number < y.number) back) test own inner.2))
    (all_weaker (λ (x : Request). AllByRecursion (λ (y : Request). x.number < y.number) (own ++ back)) (λ (x : Request). AllByRecursion (λ (y : Request). x.number < y.number) (filter test own ++ back)) front
    (λ x low. past_stays (λ (y : Request). x.number < y.number) [] own back test low) outer.2)

-- batches with each parent among them
pub kin_later : (apart : Bool) (later : List (List Request)) → AllByRecursion (IsOrderlyBatch apart) later → Kin (requests_in_all later) (requests_in_all later)
kin_later apart [] h = tt
kin_later apart (b ∷ later) h = kin_both b (requests_in_all later) (kin_batch b h.0.parents) (kin_later apart later h.1)

-- the requests of a round, where those before it and behind it wait or come later
pub record LaterOf (all front own back : List Request) (error : ℕ → Option Errno) (finished : List RequestEnd) (old done : List Completion) : Type 0 where
  pub rising : AreRising (front ++ (filter (is_left error finished) own ++ back))
  pub among : AllByRecursion (Contains all) (front ++ (filter (is_left error finished) own ++ back))
  pub past : AllByRecursion (IsPast (front ++ (filter (is_left error finished) own ++ back))) (old ++ done)
  pub complete : CompleteOnce (old ++ done)
  pub behind : CompleteAfterChildren all (old ++ done)

pub later_of : (all front own back : List Request) (error : ℕ → Option Errno) (finished : List RequestEnd) (old done : List Completion)
    → AreRising all → AreRising (front ++ (own ++ back)) → AllByRecursion (Contains all) (front ++ (own ++ back)) → Kin (front ++ (own ++ back)) (front ++ (own ++ back))
    → AllByRecursion (IsPast (front ++ (own ++ back))) old → CompleteOnce old → CompleteAfterChildren all old → Completes all error finished own done
    → LaterOf all front own back error finished old done
later_of all front own back error finished old done up_all up among kin past once after completes =
    let whole : List Request = front ++ (own ++ back) in
    let next = complete_next all whole old done up_all
    (all_weaker (Contains all) (λ (q : Request). IsOneOf q all) whole (λ q h. contains_one q all h) among) kin past
    (all_weaker (IsDone error finished own) (IsOf whole) done (λ c d. (d.0, one_right d.0 front (own ++ back) (one_left d.0 own back d.1), d.2)) completes.of) once after completes.once completes.after in
    record {
      rising = rising_mid front own back (is_left error finished) up;
      among = past_stays (Contains all) front own back (is_left error finished) among;
      past = all_append (IsPast (front ++ (filter (is_left error finished) own ++ back))) old done
          (all_weaker (IsPast whole) (IsPast (front ++ (filter (is_left error finished) own ++ back))) old
          (λ c p. past_stays (λ (r : Request). (r.number == c.request) ≡ false) front own back (is_left error finished) p) past)
          (all_weaker (IsDone error finished own) (IsPast (front ++ (filter (is_left error finished) own ++ back))) done
          (λ c d. subst (λ (n : ℕ). AllByRecursion (λ (r : Request). (r.number == n) ≡ false) (front ++ (filter (is_left error finished) own ++ back))) d.2
          (past_next front own back (is_left error finished) d.0 up d.1 d.3)) completes.of);
      complete = next.0;
      behind = next.1;
    }

-- ---- the round of a batch

admit_plain : (o : Option Errno) (tree : List Request) (others : Admitted) → AllByRecursion IsPlain others.answered → AllByRecursion IsPlain (admit_with o tree others).answered
admit_plain None tree others h = h
admit_plain (Some x) tree others h =
    all_append IsPlain (map (answered_with x) tree) others.answered
    (all_map IsPlain (answered_with x) tree (all_true (λ (r : Request). IsPlain (answered_with x r)) tree (λ r. inr refl))) h

plain_answered : (suspended : List (List Pending)) (bound : List ℕ → Bool) (trees : List (List Request)) → AllByRecursion IsPlain (admitted suspended bound trees).answered
plain_answered suspended bound [] = tt
plain_answered suspended bound (tree ∷ trees) = admit_plain (admission suspended bound tree) tree (admitted suspended bound trees) (plain_answered suspended bound trees)

event_same : (a b : Round) → RanRound a ∷ [] ≡ RanRound b ∷ [] → a ≡ b
event_same a b e = cc

same_round : (plan : Plan) (st : State) (waiting : List (List Pending)) (a b : Round) → after_round plan st waiting a ≡ after_round plan st waiting b → a ≡ b
same_round plan st waiting a b e = event_same a b (ap (λ (c : Course). c.events) e)

same_choices : (n : ℕ) (entries : List Choice) → AllByRecursion (λ (c : Choice). c.asked.key.round ≡ n) entries → choices_in n entries ≡ entries
same_choices n entries keys =
    filter_whole (λ (c : Choice). c.asked.key.round == n) entries
    (all_weaker (λ (c : Choice). c.asked.key.round ≡ n) (λ (c : Choice). (c.asked.key.round == n) ≡ true) entries (λ c is. eq-eqb c.asked.key.round n is) keys)

pub batch_next : (show : Show) (n : RunSize) (script : Script) (before : Images) (s now : Standing) (f g : SeenFold) (ahead : Ahead) (later : List (List Request)) (old new : Journal) (images after : Images) (printed : List ℕ)
    (items : List Item) (number : ℕ) (awaited : List ℕ → Bool) (slots : List (ℕ × ℕ)) (rules : List Rules) (end : SeenEnd) (lines : List ReportLine) (rest : Plan → State → Course)
    → AreRising (requests_of script.items) → AllByRecursion (IsOrderlyBatch (rows_tell_apart s.rows)) later
    → IsCourseAt show n script before s f ahead (requests_of items ∷ later) old images printed (λ plan st. then_course (run_batch plan (record { number = number; requests = requests_of items }) st) (rest plan))
    → AreSuspended (rows_tell_apart s.rows) f.bound f.suspended f.unfinished → IsLive s.live f.bound → AreAwaited f.suspended awaited
    → IsOrderlyBatch (rows_tell_apart s.rows) (requests_of items)
    → IsAdmission (has_trees f.suspended) awaited (is_some_name f.bound) (trees_of (requests_of items)) slots rules
    → IsBatchRun (error_in slots rules) (requests_of items) f.bound g.bound old new end lines end.left
    → IsRoundEnd s (old.rounds + 1) (pending_trees (names_of f.bound) number (trees_of (running slots rules items))) end
    → StandsAfter s now (old.rounds + 1) (pending_trees (names_of f.bound) number (trees_of (running slots rules items))) end
    → IsRound (terms_at s script.failmode (old.rounds + 1) f.point) (pending_trees (names_of f.bound) number (trees_of (running slots rules items))) images after end
    → g.suspended ≡ f.suspended ++ end.left → g.unfinished ≡ f.unfinished ++ filter (is_left (error_in slots rules) end.finished) (requests_of items)
    → g.point ≡ f.point → g.panicked ≡ (is_panic script.failmode && has_trees end.left) → g.tally ≡ counted_in lines f.tally
    → IsCourseAt show n script before now g ahead later new after
    (printed ++ round_text show (record { round = old.rounds + 1; batch = Some number; point = f.point }) lines end.entries (reverse (answered_in (error_in slots rules) (old.rounds + 1) (requests_of items)) ++ end.completions)) rest
batch_next show n script before s now f g ahead later old new images after printed items number awaited slots rules end lines rest up_all orderly_later h waits live awaits orderly admission_is ran over stands round_is suspended_is unfinished_is point_is panicked_is tally_is =
    let apart : Bool = rows_tell_apart s.rows in
    let requests : List Request = requests_of items in
    let error : ℕ → Option Errno = error_in slots rules in
    let trees : List (List Pending) = pending_trees (names_of f.bound) number (trees_of (running slots rules items)) in
    let batch : Batch = record { number = number; requests = requests } in
    let k : ℕ = old.rounds + 1 in
    let done : List Completion = reverse (answered_in error k requests) ++ end.completions in
    let up : AreRising requests = (rising_both requests (requests_in_all later) (rising_both f.unfinished (requests ++ requests_in_all later) h.rising).1).0 in
    let known : IsRoundOver apart f.bound error requests trees = batch_over apart f.suspended awaited f.bound number items slots rules up orderly awaits admission_is in
    let after_all : AllByRecursion (λ (c : Choice). k < c.asked.key.round) [] = tt in
    let own : (more : List Choice) → AllByRecursion (λ (c : Choice). k < c.asked.key.round) more → choices_in k (new.places ++ more) ≡ end.entries = λ more than.
    own_choices old.rounds old.places new.places end.entries more ran.journal.places h.entered.choices_below over.keys than in
    let plan : Plan = plan_of script before (new.places ++ []) in
    let plan_is : IsPlanOf s script.failmode plan = record { tops = h.plan.tops; rows = h.plan.rows; failmode_is = refl } in
    let law = batch_round apart plan h.state s script.failmode f.bound g.bound f.suspended awaited number f.point items slots rules images after old new end lines end.left plan_is h.at up orderly.parents orderly.names awaits admission_is ran over round_is
    (own [] after_all ∙ sym (same_choices k end.entries over.keys)) in
    let round : Round = law.0 in
    let run_is : run_batch plan batch h.state ≡ after_round plan h.state h.state.suspended round = law.1 in
    let next = law.2 in
    let a : Admitted = admitted h.state.suspended (is_bound h.state.bound) (trees_of requests) in
    let ran_now : Ran = settle_each plan.journal (terms_of plan h.state) (pending_trees h.state.bound number a.trees) h.state.images in
    let bound_is : bound_after ran_now.ended h.state.bound ≡ round.bound = ap (λ (c : Course). c.state.bound) run_is in
    let parents : AllByRecursion AreParented trees = batch_parented (names_of f.bound) number (running slots rules items) in
    let front : List Request = f.unfinished in
    let back : List Request = requests_in_all later in
    let coming_is : coming g.unfinished later ≡ front ++ (filter (is_left error end.finished) requests ++ back) =
    ap (λ (us : List Request). us ++ back) unfinished_is ∙ append_assoc front (filter (is_left error end.finished) requests) back in
    let in_all : AllByRecursion (λ (q : Request). IsOneOf q (requests_of script.items)) (front ++ (requests ++ back)) =
    all_weaker (Contains (requests_of script.items)) (λ (q : Request). IsOneOf q (requests_of script.items)) (front ++ (requests ++ back)) (λ q c. contains_one q (requests_of script.items) c) h.among in
    let completes : Completes (requests_of script.items) error end.finished requests done =
    round_completes s k apart (requests_of script.items) trees end requests error f.bound up_all
    (all_one (λ (q : Request). IsOneOf q (requests_of script.items)) requests (λ q at. one_all (λ (x : Request). IsOneOf x (requests_of script.items)) q (front ++ (requests ++ back)) in_all (one_right q front (requests ++ back) (one_left q requests back at))))
    up (below_batch requests up orderly.parents) parents over known in
    let still = later_of (requests_of script.items) front requests back error end.finished old.completions done up_all h.rising h.among
    (kin_both front (requests ++ back) (kin_unfinished f.suspended f.unfinished waits.numbers h.parents) (kin_both requests back (kin_batch requests orderly.parents) (kin_later apart later orderly_later)))
    h.past h.entered.completed.once h.entered.completed.after_children completes in
    let counts = round_counts f.tally lines round.ended round.left next.lines_are (ended_plain round run_is) in
    course_next show n script before s now f g ahead h.state.suspended (requests ∷ later) later old new images after printed (Some number) lines end.entries done end.left (λ p st. run_batch p batch st) rest round h
    (record {
      runs = λ more than.
          (let more_than : AllByRecursion (λ (c : Choice). k < c.asked.key.round) more = subst (λ (m : ℕ). AllByRecursion (λ (c : Choice). m < c.asked.key.round) more) ran.journal.rounds than in
          batch_same script before (new.places ++ more) (new.places ++ []) batch h.state
          (subst (λ (m : ℕ). choices_in m (new.places ++ more) ≡ choices_in m (new.places ++ [])) (ap (λ (m : ℕ). m + 1) (sym h.at.rounds_is)) (own more more_than ∙ sym (own [] after_all)))
          ∙ run_is);
      next = next;
      once = subst NamesOnce bound_is (once_after ran_now.ended h.state.bound h.once);
      places = ran.journal.places;
      completions = ran.journal.completions;
      rounds = ran.journal.rounds;
      keys = over.keys;
      ends = done_rounds s k trees end error requests over;
      complete = still.complete;
      behind = still.behind;
      tops = stands.tops;
      rows = stands.rows;
      live = live_after s now k apart trees end requests error f.bound g.bound live stands over known ran.bound_is;
      suspended = ap (λ (ts : List (List Pending)). ts ++ end.left) h.at.suspended_is ∙ sym suspended_is;
      point = point_is;
      panicked = panicked_is;
      good = ap (λ (t : Tally). t.good) tally_is ∙ counts.good;
      bad = ap (λ (t : Tally). t.bad) tally_is ∙ counts.bad;
      read = ap (λ (t : Tally). t.read) tally_is ∙ counts.read;
      parents = subst (AllByRecursion AreParented) (sym suspended_is)
          (all_append AreParented f.suspended end.left h.parents
          (subst (AllByRecursion AreParented) (sym round_is.left_is) (ran_parented end.entries (terms_at s script.failmode k f.point) trees images parents)));
      rising = subst AreRising (sym coming_is) still.rising;
      among = subst (AllByRecursion (Contains (requests_of script.items))) (sym coming_is) still.among;
      past = subst (λ (rs : List Request). AllByRecursion (IsPast rs) (old.completions ++ done)) (sym coming_is) still.past;
    })
  where
    ended_plain : (round : Round) → run_batch (plan_of script before (new.places ++ [])) (record { number = number; requests = requests_of items }) h.state ≡ after_round (plan_of script before (new.places ++ [])) h.state h.state.suspended round
        → AllByRecursion IsPlain round.ended
    ended_plain round is =
        let plan : Plan = plan_of script before (new.places ++ []) in
        let a : Admitted = admitted h.state.suspended (is_bound h.state.bound) (trees_of (requests_of items)) in
        let ran_now : Ran = settle_each plan.journal (terms_of plan h.state) (pending_trees h.state.bound number a.trees) h.state.images in
        subst (λ (r : Round). AllByRecursion IsPlain r.ended) (same_round plan h.state h.state.suspended (round_of h.state (Some number) a.answered ran_now) round is)
        (all_append IsPlain a.answered ran_now.ended (plain_answered h.state.suspended (is_bound h.state.bound) (trees_of (requests_of items)))
        (ran_plain plan.journal (terms_of plan h.state) (pending_trees h.state.bound number a.trees) h.state.images))

-- ---- the round of a clear

pub clear_next : (show : Show) (n : RunSize) (script : Script) (before : Images) (s now : Standing) (f g : SeenFold) (ahead : Ahead) (later : List (List Request)) (old new : Journal) (images after : Images) (printed : List ℕ)
    (end : SeenEnd) (lines : List ReportLine) (rest : Plan → State → Course)
    → AreRising (requests_of script.items) → AllByRecursion (IsOrderlyBatch (rows_tell_apart s.rows)) later
    → IsCourseAt show n script before s f ahead later old images printed (λ plan st. then_course (run_suspended plan st) (rest plan))
    → AreSuspended (rows_tell_apart s.rows) f.bound f.suspended f.unfinished → IsLive s.live f.bound
    → IsBatchRun no_error f.unfinished f.bound g.bound old new end lines end.left
    → IsRoundEnd s (old.rounds + 1) f.suspended end
    → StandsAfter s now (old.rounds + 1) f.suspended end
    → IsRound (terms_at s script.failmode (old.rounds + 1) f.point) f.suspended images after end
    → g.suspended ≡ end.left → g.unfinished ≡ filter (is_left no_error end.finished) f.unfinished
    → g.point ≡ f.point → g.panicked ≡ (is_panic script.failmode && has_trees end.left) → g.tally ≡ counted_in lines f.tally
    → IsCourseAt show n script before now g ahead later new after
    (printed ++ round_text show (record { round = old.rounds + 1; batch = None; point = f.point }) lines end.entries (reverse (answered_in no_error (old.rounds + 1) f.unfinished) ++ end.completions)) rest
clear_next show n script before s now f g ahead later old new images after printed end lines rest up_all orderly_later h waits live ran over stands round_is suspended_is unfinished_is point_is panicked_is tally_is =
    let apart : Bool = rows_tell_apart s.rows in
    let requests : List Request = f.unfinished in
    let k : ℕ = old.rounds + 1 in
    let done : List Completion = reverse (answered_in no_error k requests) ++ end.completions in
    let done_is : end.completions ≡ done = ap (λ (cs : List Completion). reverse cs ++ end.completions) (sym (none_answered k requests)) in
    let after_all : AllByRecursion (λ (c : Choice). k < c.asked.key.round) [] = tt in
    let own : (more : List Choice) → AllByRecursion (λ (c : Choice). k < c.asked.key.round) more → choices_in k (new.places ++ more) ≡ end.entries = λ more than.
    own_choices old.rounds old.places new.places end.entries more ran.journal.places h.entered.choices_below over.keys than in
    let plan : Plan = plan_of script before (new.places ++ []) in
    let plan_is : IsPlanOf s script.failmode plan = record { tops = h.plan.tops; rows = h.plan.rows; failmode_is = refl } in
    let law = suspended_round apart plan h.state s script.failmode f.bound g.bound f.suspended requests f.point images after old new end lines end.left plan_is h.at waits.numbers waits.over.names ran over round_is
    (own [] after_all ∙ sym (same_choices k end.entries over.keys)) in
    let round : Round = law.0 in
    let run_is : run_suspended plan h.state ≡ after_round plan h.state [] round = law.1 in
    let next = law.2 in
    let ran_now : Ran = settle_each plan.journal (terms_of plan h.state) h.state.suspended h.state.images in
    let bound_is : bound_after ran_now.ended h.state.bound ≡ round.bound = ap (λ (c : Course). c.state.bound) run_is in
    let back : List Request = requests_in_all later in
    let coming_is : coming g.unfinished later ≡ filter (is_left no_error end.finished) requests ++ back = ap (λ (us : List Request). us ++ back) unfinished_is in
    let in_all : AllByRecursion (λ (q : Request). IsOneOf q (requests_of script.items)) (requests ++ back) =
    all_weaker (Contains (requests_of script.items)) (λ (q : Request). IsOneOf q (requests_of script.items)) (requests ++ back) (λ q c. contains_one q (requests_of script.items) c) h.among in
    let kin : Kin requests requests = kin_unfinished f.suspended requests waits.numbers h.parents in
    let completes : Completes (requests_of script.items) no_error end.finished requests done =
    subst (Completes (requests_of script.items) no_error end.finished requests) done_is
    (ends_complete s k apart (requests_of script.items) f.suspended end requests no_error f.bound up_all
    (all_one (λ (q : Request). IsOneOf q (requests_of script.items)) requests (λ q at. one_all (λ (x : Request). IsOneOf x (requests_of script.items)) q (requests ++ back) in_all (one_left q requests back at)))
    over waits.over) in
    let still = later_of (requests_of script.items) [] requests back no_error end.finished old.completions done up_all h.rising h.among
    (kin_both requests back kin (kin_later apart later orderly_later)) h.past h.entered.completed.once h.entered.completed.after_children completes in
    let counts = round_counts f.tally lines round.ended round.left next.lines_are
    (subst (λ (r : Round). AllByRecursion IsPlain r.ended) (same_round plan h.state [] (round_of h.state None [] ran_now) round run_is) (ran_plain plan.journal (terms_of plan h.state) h.state.suspended h.state.images)) in
    course_next show n script before s now f g ahead [] later later old new images after printed None lines end.entries done end.left (λ p st. run_suspended p st) rest round h
    (record {
      runs = λ more than.
          (let more_than : AllByRecursion (λ (c : Choice). k < c.asked.key.round) more = subst (λ (m : ℕ). AllByRecursion (λ (c : Choice). m < c.asked.key.round) more) ran.journal.rounds than in
          clear_same script before (new.places ++ more) (new.places ++ []) h.state
          (subst (λ (m : ℕ). choices_in m (new.places ++ more) ≡ choices_in m (new.places ++ [])) (ap (λ (m : ℕ). m + 1) (sym h.at.rounds_is)) (own more more_than ∙ sym (own [] after_all)))
          ∙ run_is);
      next = subst (λ (cs : List Completion). IsNextRound s k f.point None lines end.entries cs end.left after g.bound round) done_is next;
      once = subst NamesOnce bound_is (once_after ran_now.ended h.state.bound h.once);
      places = ran.journal.places;
      completions = ran.journal.completions;
      rounds = ran.journal.rounds;
      keys = over.keys;
      ends = done_rounds s k f.suspended end no_error requests over;
      complete = still.complete;
      behind = still.behind;
      tops = stands.tops;
      rows = stands.rows;
      live = live_after s now k apart f.suspended end requests no_error f.bound g.bound live stands over waits.over ran.bound_is;
      suspended = sym suspended_is;
      point = point_is;
      panicked = panicked_is;
      good = ap (λ (t : Tally). t.good) tally_is ∙ counts.good;
      bad = ap (λ (t : Tally). t.bad) tally_is ∙ counts.bad;
      read = ap (λ (t : Tally). t.read) tally_is ∙ counts.read;
      parents = subst (AllByRecursion AreParented) (sym suspended_is)
          (subst (AllByRecursion AreParented) (sym round_is.left_is) (ran_parented end.entries (terms_at s script.failmode k f.point) f.suspended images h.parents));
      rising = subst AreRising (sym coming_is) still.rising;
      among = subst (AllByRecursion (Contains (requests_of script.items))) (sym coming_is) still.among;
      past = subst (λ (rs : List Request). AllByRecursion (IsPast rs) (old.completions ++ done)) (sym coming_is) still.past;
    })
