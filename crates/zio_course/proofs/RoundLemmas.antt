-- One round more of a run over images that are told.
use Rattle.std.proofs.Common.{◌≡◌, ℕ, ◌+◌, ◌<◌, ◌≤◌, List, [], ◌∷◌, ◌++◌, length, filter, Bool, false, ◌&&◌, ◌==◌, Option, refl, sym, ap, ◌∙◌, subst, Contains, append_assoc, length-append}
use Rattle.std.specs.Prelude.{is_none, is_some, sum_by}
use Rattle.std.specs.List.{AllByRecursion, flat_map}
use Rattle.std.proofs.lemmas.List.{append-nil}
use Rattle.std.proofs.lemmas.List.Elements.{filter-append}
use Rattle.std.proofs.lemmas.List.Sums.{sum_by-append}
use Rattle.zio_types.specs.declared.journal.Completion.{Completion}
use Rattle.zio_types.specs.declared.journal.Journal.{Journal}
use Rattle.zio_types.specs.declared.place.TopSize.{TopSize}
use Rattle.zio_types.specs.Choices.{Choice}
use Rattle.zio_script.specs.declared.script.Request.{Request}
use Rattle.zio_script.specs.declared.script.Script.{Script}
use Rattle.zio_script.specs.Accepted.{AreRising}
use Rattle.zio_script.specs.Requests.{requests_of}
use Rattle.zio_cksum.specs.Images.{Images}
use Rattle.zio_gang.specs.Attempts.{Ended, Pending}
use Rattle.zio_gang.specs.Journals.{CompleteAfterChildren, CompleteOnce, choices_in}
use Rattle.zio_gang.specs.Rounds.{Bound, NamesOnce}
use Rattle.zio_gang.specs.Runs.{Course, Event, Plan, Round, State, after_round, has_trees, is_panic, plan_of, rounds_of, then_course}
use Rattle.zio_gang.specs.Runs.Event.{RanRound}
use Rattle.zio_gang.specs.Trees.{sizes_of}
use Rattle.zio_report.specs.declared.report.ReportLine.{ReportLine}
use Rattle.zio_report.specs.declared.report.RoundHead.{RoundHead}
use Rattle.zio_report.specs.declared.report.Show.{Show}
use Rattle.zio_report.specs.Lines.{round_text}
use Rattle.zio_report.specs.Reports.{RunSize, all_ended, bad_ended, good_ended}
use Rattle.zio_course.specs.Course.{IsEnteredSoFar}
use Rattle.zio_course.specs.Folds.{SeenFold}
use Rattle.zio_course.specs.Live.{IsLive}
use Rattle.zio_course.specs.Parents.{AreParented}
use Rattle.zio_course.specs.Runners.{Standing}
use Rattle.zio_course.specs.SoFar.{Ahead, IsCourseAt, coming, images_after, names_after}
use Rattle.zio_course.specs.Steps.{IsNextRound}
use Rattle.zio_course.proofs.JournalLemmas.{all_after, in_round}
use Rattle.zio_course.proofs.LiveLemmas.{used_live}
use Rattle.zio_course.proofs.SoFarLemmas.{reaches_next, rounds_push, so_far_round}

images_last : (images : Images) (rounds : List Round) (round : Round) → images_after images (rounds ++ round ∷ []) ≡ round.images
images_last images [] round = refl
images_last images (r ∷ rounds) round = images_last r.images rounds round

names_last : (bound : Bound) (rounds : List Round) (round : Round) → names_after bound (rounds ++ round ∷ []) ≡ round.bound
names_last bound [] round = refl
names_last bound (r ∷ rounds) round = names_last r.bound rounds round

-- the choices of the next round, whatever the journal holds of later ones
pub own_choices : (n : ℕ) (old now entries later : List Choice) → now ≡ old ++ entries → AllByRecursion (λ (c : Choice). c.asked.key.round ≤ n) old
    → AllByRecursion (λ (c : Choice). c.asked.key.round ≡ n + 1) entries → AllByRecursion (λ (c : Choice). n + 1 < c.asked.key.round) later
    → choices_in (n + 1) (now ++ later) ≡ entries
own_choices n old now entries later is below keys after = in_round (λ (c : Choice). c.asked.key.round) n old now entries later is below keys after

-- What is known of a round that was run, as the next one of the course.
pub record IsNextOf (show : Show) (n : RunSize) (script : Script) (before : Images) (s now : Standing) (f g : SeenFold) (kept : List (List Pending)) (later : List (List Request)) (old new : Journal) (images after : Images)
    (batch : Option ℕ) (lines : List ReportLine) (entries : List Choice) (done : List Completion) (left : List (List Pending)) (state : State) (step : Plan → Course) (round : Round) : Type 0 where
  pub runs : (more : List Choice) → AllByRecursion (λ (c : Choice). new.rounds < c.asked.key.round) more → step (plan_of script before (new.places ++ more)) ≡ after_round (plan_of script before []) state kept round
  pub next : IsNextRound s (old.rounds + 1) f.point batch lines entries done left after g.bound round
  pub once : NamesOnce round.bound
  pub places : new.places ≡ old.places ++ entries
  pub completions : new.completions ≡ old.completions ++ done
  pub rounds : new.rounds ≡ old.rounds + 1
  pub keys : AllByRecursion (λ (c : Choice). c.asked.key.round ≡ old.rounds + 1) entries
  pub ends : AllByRecursion (λ (c : Completion). c.round ≡ old.rounds + 1) done
  pub complete : CompleteOnce (old.completions ++ done)
  pub behind : CompleteAfterChildren (requests_of script.items) (old.completions ++ done)
  pub tops : now.tops ≡ s.tops
  pub rows : now.rows ≡ s.rows
  pub live : IsLive now.live g.bound
  pub suspended : kept ++ left ≡ g.suspended
  pub point : g.point ≡ f.point
  pub panicked : g.panicked ≡ (is_panic script.failmode && has_trees left)
  pub good : g.tally.good ≡ f.tally.good + length (filter (λ (e : Ended). is_none e.error) round.ended)
  pub bad : g.tally.bad ≡ f.tally.bad + length (filter (λ (e : Ended). is_some e.error) round.ended)
  pub read : g.tally.read ≡ f.tally.read + sum_by (λ (e : Ended). length e.bytes) (filter (λ (e : Ended). is_none e.error) round.ended)
  pub parents : AllByRecursion AreParented g.suspended
  pub rising : AreRising (coming g.unfinished later)
  pub among : AllByRecursion (Contains (requests_of script.items)) (coming g.unfinished later)
  pub past : AllByRecursion (λ (c : Completion). AllByRecursion (λ (r : Request). (r.number == c.request) ≡ false) (coming g.unfinished later)) (old.completions ++ done)

all_ended_push : (events : List Event) (round : Round) → all_ended (events ++ RanRound round ∷ []) ≡ all_ended events ++ round.ended
all_ended_push events round = ap (flat_map (λ (r : Round). r.ended)) (rounds_push events round) ∙ go (rounds_of events)
  where
    go : (rs : List Round) → flat_map (λ (r : Round). r.ended) (rs ++ round ∷ []) ≡ flat_map (λ (r : Round). r.ended) rs ++ round.ended
    go [] = append-nil round.ended
    go (r ∷ rs) = ap (λ (es : List Ended). r.ended ++ es) (go rs) ∙ sym (append_assoc r.ended (flat_map (λ (x : Round). x.ended) rs) round.ended)

test_push : (test : Ended → Bool) (events : List Event) (round : Round) → filter test (all_ended (events ++ RanRound round ∷ [])) ≡ filter test (all_ended events) ++ filter test round.ended
test_push test events round = ap (filter test) (all_ended_push events round) ∙ filter-append test (all_ended events) round.ended

sum_both : (xs ys : List Ended) → sum_by (λ (e : Ended). length e.bytes) (xs ++ ys) ≡ sum_by (λ (e : Ended). length e.bytes) xs + sum_by (λ (e : Ended). length e.bytes) ys
sum_both xs ys = sum_by-append (λ (e : Ended). length e.bytes) xs ys

-- One round more.
pub course_next : (show : Show) (n : RunSize) (script : Script) (before : Images) (s now : Standing) (f g : SeenFold) (ahead : Ahead) (kept : List (List Pending)) (earlier later : List (List Request)) (old new : Journal) (images after : Images) (printed : List ℕ)
    (batch : Option ℕ) (lines : List ReportLine) (entries : List Choice) (done : List Completion) (left : List (List Pending)) (step : Plan → State → Course) (rest : Plan → State → Course) (round : Round)
    → (h : IsCourseAt show n script before s f ahead earlier old images printed (λ plan st. then_course (step plan st) (rest plan)))
    → IsNextOf show n script before s now f g kept later old new images after batch lines entries done left h.state (λ plan. step plan h.state) round
    → IsCourseAt show n script before now g ahead later new after (printed ++ round_text show (record { round = old.rounds + 1; batch = batch; point = f.point }) lines entries done) rest
course_next show n script before s now f g ahead kept earlier later old new images after printed batch lines entries done left step rest round h r =
    let st : State = h.state in
    let next_state : State = (after_round (plan_of script before []) st kept round).state in
    let sizes : sizes_of s.tops ≡ sizes_of now.tops = ap sizes_of (sym r.tops) in
    record {
      events = h.events ++ RanRound round ∷ [];
      state = next_state;
      reached = reaches_next script before old new entries h.events (RanRound round ∷ []) (λ plan. step plan st) next_state rest h.reached r.places
          (λ more later_than. all_after (λ (c : Choice). c.asked.key.round) old.rounds entries more r.keys
          (subst (λ (k : ℕ). AllByRecursion (λ (c : Choice). k < c.asked.key.round) more) r.rounds later_than))
          r.runs;
      entered = subst (λ (sz : List TopSize). IsEnteredSoFar show n sz (requests_of script.items) new (h.events ++ RanRound round ∷ [])
          (printed ++ round_text show (record { round = old.rounds + 1; batch = batch; point = f.point }) lines entries done)) sizes
          (so_far_round show n (sizes_of s.tops) (requests_of script.items) old new h.events printed round (record { round = old.rounds + 1; batch = batch; point = f.point }) lines entries done
          h.entered r.places r.completions r.rounds r.keys r.ends (ap (λ (x : RoundHead). x.round) r.next.head) r.next.head r.next.lines_are r.next.choices_are r.next.completions_are r.complete r.behind);
      plan = record { tops = h.plan.tops ∙ sym r.tops; rows = h.plan.rows ∙ sym r.rows; failmode_is = h.plan.failmode_is };
      at = record {
        names = r.next.names;
        used = used_live round.bound g.bound now.live r.once r.next.names r.live;
        suspended_is = ap (λ (ts : List (List Pending)). kept ++ ts) r.next.left_is ∙ r.suspended;
        rounds_is = ap (λ (k : ℕ). k + 1) h.at.rounds_is ∙ sym r.rounds;
        point_is = h.at.point_is ∙ sym r.point;
        images_are = r.next.images_are;
      };
      once = r.once;
      held = h.held;
      batch = h.batch;
      batches = h.batches;
      panicked = ap (λ (ts : List (List Pending)). is_panic script.failmode && has_trees ts) r.next.left_is ∙ sym r.panicked;
      images_are = sym r.next.images_are ∙ (sym (images_last before (rounds_of h.events) round) ∙ ap (images_after before) (sym (rounds_push h.events round)));
      names_are = sym (names_last [] (rounds_of h.events) round) ∙ ap (names_after []) (sym (rounds_push h.events round));
      good = r.good ∙ (ap (λ (k : ℕ). k + length (filter (λ (e : Ended). is_none e.error) round.ended)) h.good
          ∙ (sym (length-append (good_ended h.events) (filter (λ (e : Ended). is_none e.error) round.ended)) ∙ ap length (sym (test_push (λ (e : Ended). is_none e.error) h.events round))));
      bad = r.bad ∙ (ap (λ (k : ℕ). k + length (filter (λ (e : Ended). is_some e.error) round.ended)) h.bad
          ∙ (sym (length-append (bad_ended h.events) (filter (λ (e : Ended). is_some e.error) round.ended)) ∙ ap length (sym (test_push (λ (e : Ended). is_some e.error) h.events round))));
      read = r.read ∙ (ap (λ (k : ℕ). k + sum_by (λ (e : Ended). length e.bytes) (filter (λ (e : Ended). is_none e.error) round.ended)) h.read
          ∙ (sym (sum_both (good_ended h.events) (filter (λ (e : Ended). is_none e.error) round.ended))
          ∙ ap (sum_by (λ (e : Ended). length e.bytes)) (sym (test_push (λ (e : Ended). is_none e.error) h.events round))));
      parents = r.parents;
      up = h.up;
      rising = r.rising;
      among = r.among;
      past = subst (AllByRecursion (λ (c : Completion). AllByRecursion (λ (q : Request). (q.number == c.request) ≡ false) (coming g.unfinished later))) (sym r.completions) r.past;
    }
