-- A run that has come further by a round, or by a batch that is held.
use Rattle.std.proofs.Common.{◌≡◌, ℕ, ◌+◌, ◌<◌, ◌≤◌, List, [], ◌∷◌, ◌++◌, length, refl, sym, ap, ◌∙◌, subst, append_assoc, length-append}
use Rattle.std.proofs.lemmas.List.{append-nil}
use Rattle.std.specs.List.{AllByRecursion, flat_map}
use Rattle.zio_types.specs.declared.journal.Completion.{Completion}
use Rattle.zio_types.specs.declared.journal.Journal.{Journal}
use Rattle.zio_types.specs.declared.place.TopSize.{TopSize}
use Rattle.zio_types.specs.Choices.{Choice}
use Rattle.zio_script.specs.declared.script.Request.{Request}
use Rattle.zio_script.specs.declared.script.Script.{Script}
use Rattle.zio_cksum.specs.Images.{Images}
use Rattle.zio_gang.specs.Journals.{AreChoicesOf, AreCompletions, AreCompletionsOf, CompleteAfterChildren, CompleteOnce, IsLawfulJournal, choices_in, completions_in}
use Rattle.zio_gang.specs.Runs.{Course, Event, Plan, Round, State, add_events, plan_of, rounds_of, run_script, then_course}
use Rattle.zio_gang.specs.Runs.Event.{RanRound, HeldBatch}
use Rattle.zio_report.specs.declared.report.ReportLine.{ReportLine}
use Rattle.zio_report.specs.declared.report.RoundHead.{RoundHead}
use Rattle.zio_report.specs.declared.report.Show.{Show}
use Rattle.zio_report.specs.declared.report.Show.TheVariants.{Report, Summary}
use Rattle.zio_report.specs.Lines.{round_text}
use Rattle.zio_report.specs.Reports.{Records, RunSize, event_text, head_of, held_text, lines_of, pool_text, text_so_far}
use Rattle.zio_course.specs.Course.{IsEnteredSoFar, Reaches, shown_of}
use Rattle.zio_course.proofs.JournalLemmas.{all_after, all_next, completions_next, in_round, lawful_next}

-- ---- what happened

pub events_both : (xs ys : List Event) (c : Course) → add_events (xs ++ ys) c ≡ add_events xs (add_events ys c)
events_both xs ys c = ap (λ (events : List Event). record { events = events; state = c.state }) (append_assoc xs ys c.events)

pub rounds_push : (xs : List Event) (round : Round) → rounds_of (xs ++ RanRound round ∷ []) ≡ rounds_of xs ++ round ∷ []
rounds_push [] round = refl
rounds_push (RanRound r ∷ xs) round = ap (λ (rs : List Round). r ∷ rs) (rounds_push xs round)
rounds_push (HeldBatch b ∷ xs) round = rounds_push xs round

pub rounds_held : (xs : List Event) (batch : ℕ) → rounds_of (xs ++ HeldBatch batch ∷ []) ≡ rounds_of xs
rounds_held [] batch = refl
rounds_held (RanRound r ∷ xs) batch = ap (λ (rs : List Round). r ∷ rs) (rounds_held xs batch)
rounds_held (HeldBatch b ∷ xs) batch = rounds_held xs batch

texts_push : (show : Show) (j : Records) (xs : List Event) (e : Event) → flat_map (event_text show j) (xs ++ e ∷ []) ≡ flat_map (event_text show j) xs ++ event_text show j e
texts_push show j [] e = append-nil (event_text show j e)
texts_push show j (x ∷ xs) e =
    ap (λ (text : List ℕ). event_text show j x ++ text) (texts_push show j xs e)
    ∙ sym (append_assoc (event_text show j x) (flat_map (event_text show j) xs) (event_text show j e))

so_far_push : (show : Show) (n : RunSize) (j : Records) (xs : List Event) (e : Event)
    → text_so_far show n j (xs ++ e ∷ []) ≡ text_so_far show n j xs ++ shown_of show (event_text show j e)
so_far_push (Report journal bytes) n j xs e =
    ap (λ (text : List ℕ). pool_text n.tops n.images ++ text) (texts_push (Report journal bytes) j xs e)
    ∙ sym (append_assoc (pool_text n.tops n.images) (flat_map (event_text (Report journal bytes) j) xs) (event_text (Report journal bytes) j e))
so_far_push Summary n j xs e = refl

shown_round : (show : Show) (head : RoundHead) (lines : List ReportLine) (choices : List Choice) (done : List Completion)
    → shown_of show (round_text show head lines choices done) ≡ round_text show head lines choices done
shown_round (Report journal bytes) head lines choices done = refl
shown_round Summary head lines choices done = refl

-- ---- the course

-- A step of the course happens, whatever later rounds the journal will hold, and the rest goes on from the state after it.
pub reaches_next : (script : Script) (before : Images) (old new : Journal) (entries : List Choice) (events more : List Event) (step : Plan → Course) (st : State) (rest : Plan → State → Course)
    → Reaches script before old events (λ plan. then_course (step plan) (rest plan))
    → new.places ≡ old.places ++ entries
    → ((later : List Choice) → AllByRecursion (λ (c : Choice). new.rounds < c.asked.key.round) later → AllByRecursion (λ (c : Choice). old.rounds < c.asked.key.round) (entries ++ later))
    → ((later : List Choice) → AllByRecursion (λ (c : Choice). new.rounds < c.asked.key.round) later
    → step (plan_of script before (new.places ++ later)) ≡ record { events = more; state = st })
    → Reaches script before new (events ++ more) (λ plan. rest plan st)
reaches_next script before old new entries events more step st rest reached places after steps later are_later =
    let journal : List Choice = new.places ++ later in
    let same : old.places ++ (entries ++ later) ≡ journal = sym (append_assoc old.places entries later) ∙ ap (λ (cs : List Choice). cs ++ later) (sym places) in
    subst (λ (cs : List Choice). run_script script before cs ≡ add_events events (then_course (step (plan_of script before cs)) (rest (plan_of script before cs)))) same
    (reached (entries ++ later) (after later are_later))
    ∙ (ap (λ (c : Course). add_events events (then_course c (rest (plan_of script before journal)))) (steps later are_later)
    ∙ sym (events_both events more (rest (plan_of script before journal) st)))

-- ---- the journal and the text

-- One round more: its entries, completions and text.
pub so_far_round : (show : Show) (n : RunSize) (sizes : List TopSize) (requests : List Request) (old new : Journal) (events : List Event) (printed : List ℕ) (round : Round)
    (head : RoundHead) (lines : List ReportLine) (entries : List Choice) (done : List Completion)
    → IsEnteredSoFar show n sizes requests old events printed
    → new.places ≡ old.places ++ entries → new.completions ≡ old.completions ++ done → new.rounds ≡ old.rounds + 1
    → AllByRecursion (λ (c : Choice). c.asked.key.round ≡ old.rounds + 1) entries
    → AllByRecursion (λ (c : Completion). c.round ≡ old.rounds + 1) done
    → round.number ≡ old.rounds + 1 → head_of round ≡ head → lines_of round ≡ lines
    → AreChoicesOf sizes round.used round.asks entries → AreCompletionsOf round.number round.ended done
    → CompleteOnce (old.completions ++ done) → CompleteAfterChildren requests (old.completions ++ done)
    → IsEnteredSoFar show n sizes requests new (events ++ RanRound round ∷ []) (printed ++ round_text show head lines entries done)
so_far_round show n sizes requests old new events printed round head lines entries done h places completions rounds entries_of done_of number head_is lines_is choices_are completions_are once after =
    let seen : List Choice → List Completion → Records = λ (cs : List Choice) (ds : List Completion). record { choices = cs; completions = ds } in
    record {
      shown = λ more last later.
          (let cs : List Choice = new.places ++ more in
          let ds : List Completion = new.completions ++ last in
          let choices_later : AllByRecursion (λ (c : Choice). old.rounds + 1 < c.asked.key.round) more =
          subst (λ (k : ℕ). AllByRecursion (λ (c : Choice). k < c.asked.key.round) more) rounds later.choices in
          let done_later : AllByRecursion (λ (c : Completion). old.rounds + 1 < c.round) last =
          subst (λ (k : ℕ). AllByRecursion (λ (c : Completion). k < c.round) last) rounds later.completions in
          let cs_is : old.places ++ (entries ++ more) ≡ cs = sym (append_assoc old.places entries more) ∙ ap (λ (xs : List Choice). xs ++ more) (sym places) in
          let ds_is : old.completions ++ (done ++ last) ≡ ds = sym (append_assoc old.completions done last) ∙ ap (λ (xs : List Completion). xs ++ last) (sym completions) in
          let own : choices_in round.number cs ≡ entries =
          ap (λ (k : ℕ). choices_in k cs) number
          ∙ in_round (λ (c : Choice). c.asked.key.round) old.rounds old.places new.places entries more places h.choices_below entries_of choices_later in
          let ends : completions_in round.number ds ≡ done =
          ap (λ (k : ℕ). completions_in k ds) number
          ∙ in_round (λ (c : Completion). c.round) old.rounds old.completions new.completions done last completions h.completions_below done_of done_later in
          let text : event_text show (seen cs ds) (RanRound round) ≡ round_text show head lines entries done =
          ap (λ (x : RoundHead). round_text show x (lines_of round) (choices_in round.number cs) (completions_in round.number ds)) head_is
          ∙ (ap (λ (x : List ReportLine). round_text show head x (choices_in round.number cs) (completions_in round.number ds)) lines_is
          ∙ (ap (λ (x : List Choice). round_text show head lines x (completions_in round.number ds)) own
          ∙ ap (λ (x : List Completion). round_text show head lines entries x) ends)) in
          let earlier : printed ≡ text_so_far show n (seen cs ds) events =
          h.shown (entries ++ more) (done ++ last) (record {
            choices = all_after (λ (c : Choice). c.asked.key.round) old.rounds entries more entries_of choices_later;
            completions = all_after (λ (c : Completion). c.round) old.rounds done last done_of done_later;
          })
          ∙ (ap (λ (xs : List Choice). text_so_far show n (seen xs (old.completions ++ (done ++ last))) events) cs_is
          ∙ ap (λ (xs : List Completion). text_so_far show n (seen cs xs) events) ds_is) in
          ap (λ (xs : List ℕ). xs ++ round_text show head lines entries done) earlier
          ∙ (ap (λ (xs : List ℕ). text_so_far show n (seen cs ds) events ++ xs) (sym (shown_round show head lines entries done) ∙ ap (shown_of show) (sym text))
          ∙ sym (so_far_push show n (seen cs ds) events (RanRound round))));
      lawful = subst (λ (rs : List Round). IsLawfulJournal sizes rs new.places) (sym (rounds_push events round))
          (subst (λ (cs : List Choice). IsLawfulJournal sizes (rounds_of events ++ round ∷ []) cs) (sym places)
          (lawful_next sizes old.rounds (rounds_of events) round old.places entries h.lawful h.choices_below h.rounds_below number entries_of choices_are));
      counted = rounds ∙ (ap (λ (k : ℕ). k + 1) h.counted ∙ (sym (length-append (rounds_of events) (round ∷ [])) ∙ ap length (sym (rounds_push events round))));
      completed = subst (λ (rs : List Round). AreCompletions requests rs new.completions) (sym (rounds_push events round))
          (subst (λ (cs : List Completion). AreCompletions requests (rounds_of events ++ round ∷ []) cs) (sym completions)
          (completions_next requests old.rounds (rounds_of events) round old.completions done h.completed h.completions_below h.rounds_below done_of number completions_are once after));
      choices_below = subst (λ (cs : List Choice). AllByRecursion (λ (c : Choice). c.asked.key.round ≤ new.rounds) cs) (sym places)
          (subst (λ (k : ℕ). AllByRecursion (λ (c : Choice). c.asked.key.round ≤ k) (old.places ++ entries)) (sym rounds)
          (all_next (λ (c : Choice). c.asked.key.round) old.rounds old.places entries h.choices_below entries_of));
      rounds_below = subst (λ (rs : List Round). AllByRecursion (λ (r : Round). r.number ≤ new.rounds) rs) (sym (rounds_push events round))
          (subst (λ (k : ℕ). AllByRecursion (λ (r : Round). r.number ≤ k) (rounds_of events ++ round ∷ [])) (sym rounds)
          (all_next (λ (r : Round). r.number) old.rounds (rounds_of events) (round ∷ []) h.rounds_below (number, tt)));
      completions_below = subst (λ (cs : List Completion). AllByRecursion (λ (c : Completion). c.round ≤ new.rounds) cs) (sym completions)
          (subst (λ (k : ℕ). AllByRecursion (λ (c : Completion). c.round ≤ k) (old.completions ++ done)) (sym rounds)
          (all_next (λ (c : Completion). c.round) old.rounds old.completions done h.completions_below done_of));
    }

-- A batch more that is held.
pub so_far_held : (show : Show) (n : RunSize) (sizes : List TopSize) (requests : List Request) (journal : Journal) (events : List Event) (printed : List ℕ) (batch : ℕ)
    → IsEnteredSoFar show n sizes requests journal events printed
    → IsEnteredSoFar show n sizes requests journal (events ++ HeldBatch batch ∷ []) (printed ++ shown_of show (held_text batch))
so_far_held show n sizes requests journal events printed batch h =
    let same : rounds_of events ≡ rounds_of (events ++ HeldBatch batch ∷ []) = sym (rounds_held events batch) in
    record {
      shown = λ more last later.
          ap (λ (text : List ℕ). text ++ shown_of show (held_text batch)) (h.shown more last later)
          ∙ sym (so_far_push show n (record { choices = journal.places ++ more; completions = journal.completions ++ last }) events (HeldBatch batch));
      lawful = subst (λ (rs : List Round). IsLawfulJournal sizes rs journal.places) same h.lawful;
      counted = h.counted ∙ ap length same;
      completed = subst (λ (rs : List Round). AreCompletions requests rs journal.completions) same h.completed;
      choices_below = h.choices_below;
      rounds_below = subst (AllByRecursion (λ (r : Round). r.number ≤ journal.rounds)) same h.rounds_below;
      completions_below = h.completions_below;
    }
