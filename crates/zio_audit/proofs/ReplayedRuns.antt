-- A run whose rounds had the entries that a report spells of them: what the report spells beside these, and where it can't be
-- lawful.
use Rattle.std.proofs.Common.{◌≡◌, ◌+◌, ◌-◌, ◌<◌, ◌≤◌, ◌==◌, ℕ, zero, suc, List, [], ◌∷◌, ◌++◌, length, drop, slice_get, true, refl, sym, ap, subst, ◌∙◌, arith, append_assoc, ⊎_elim}
use Rattle.std.specs.List.{AllByRecursion}
use Rattle.std.proofs.lemmas.Bool.{cond-false, ne_eqb, true≢false}
use Rattle.std.proofs.lemmas.List.{append-nil}
use Rattle.std.proofs.lemmas.List.Elements.{filter-append}
use Rattle.zio_types.specs.declared.journal.Journal.{Journal}
use Rattle.zio_types.specs.declared.place.TopSize.{TopSize}
use Rattle.zio_types.specs.Choices.{Choice}
use Rattle.zio_script.specs.declared.script.Script.{Script}
use Rattle.zio_cksum.specs.Images.{Images, Setting}
use Rattle.zio_cksum.proofs.AllLemmas.{all_append, all_weaker}
use Rattle.zio_gang.specs.Attempts.{Pending, Terms}
use Rattle.zio_gang.specs.Journals.{AreChoicesOf, IsLawfulJournal, choices_in}
use Rattle.zio_gang.specs.Rounds.{Ran, admitted, is_bound, pending_trees, settle_each, trees_of, used_places}
use Rattle.zio_gang.specs.Runs.{Course, Event, Plan, Round, State, add_events, plan_of, rounds_of, run_batch, run_script, run_suspended, terms_of, then_course}
use Rattle.zio_gang.specs.Runs.Event.{RanRound, HeldBatch}
use Rattle.zio_gang.specs.Trees.{sizes_of}
use Rattle.zio_gang.proofs.DependenceLemmas.{choices_law, used_law}
use Rattle.zio_report.specs.declared.report.RunFault.TheVariants.{Memory}
use Rattle.zio_report.specs.declared.report.Show.{Show}
use Rattle.zio_report.specs.Meanings.{tops_of}
use Rattle.zio_report.specs.Reports.{RunSize}
use Rattle.zio_disks.proofs.WriteLemmas.{all_right}
use Rattle.zio_course.specs.declared.runner.Stop.TheVariants.{Memory as NoMemory}
use Rattle.zio_course.specs.Course.{AreOfRounds, Reaches}
use Rattle.zio_course.specs.Runners.{Stopping}
use Rattle.zio_course.specs.SoFar.{AreNextTerms, GoesOn, IsBetween, IsBroken, IsCut}
use Rattle.zio_course.specs.SoFar.GoesOn.{WithBatch, WithSuspended}
use Rattle.zio_course.proofs.PlaceLemmas.{choices_same}
use Rattle.zio_spelled.specs.declared.rounds.RoundJournal.{RoundJournal}
use Rattle.zio_spelled.specs.Rounds.{IsSpelled, lines_of_rounds}
use Rattle.zio_audit.specs.Replays.{AreSpelledIn, ChoseSpelled, entries_if, entries_in}
use Rattle.zio_audit.specs.Verdicts.{Case, HasLawfulEntries, IsReadAs, entries_of, journal_spelled, rounds_under}
use Rattle.zio_audit.proofs.SpelledRounds.{choices_spelled}
use Rattle.zio_audit.proofs.TextCourses.{course_until}
use Rattle.zio_audit.proofs.TextNames.{script_named, told_run}
use Rattle.zio_audit.proofs.TextPrinted.{IsWithin, all_within, choices_round}
use Rattle.zio_audit.proofs.TextRounds.{AreInRounds, all_of, spelled_in_rounds}

-- an entry is of a later round than this
abbrev IsPast : ℕ → Choice → Type 0
IsPast rounds c = rounds < c.asked.key.round

-- ---- what is spelled beside the entries of the first rounds

-- what is spelled from a round on is its own and that of later rounds
from_round : (n : ℕ) (journals : List RoundJournal) → entries_of (drop n journals) ≡ entries_if (slice_get journals n) ++ entries_of (drop (suc n) journals)
from_round zero [] = refl
from_round (suc n) [] = refl
from_round zero (j ∷ journals) = refl
from_round (suc n) (j ∷ journals) = from_round n journals

-- the entries of the first rounds stand before those of the later ones
first_spelled : (journals : List RoundJournal) (rounds : ℕ) (places : List Choice) → AreOfRounds (AreSpelledIn journals) rounds places → entries_of journals ≡ places ++ entries_of (drop rounds journals)
first_spelled journals zero places none = ap (λ (cs : List Choice). cs ++ entries_of journals) (sym none)
first_spelled journals (suc n) places of =
    let before : List Choice = of.0 in
    let own : List Choice = entries_if (slice_get journals n) in
    let later : List Choice = entries_of (drop (suc n) journals) in
    let here : suc n - 1 ≡ n = omega arith in
    let last : of.1 ≡ own = of.4 ∙ ap (λ k. entries_if (slice_get journals k)) here in
    first_spelled journals n before of.3
    ∙ ap (λ (cs : List Choice). before ++ cs) (from_round n journals)
    ∙ sym (append_assoc before own later)
    ∙ ap (λ (cs : List Choice). cs ++ later) (ap (λ (cs : List Choice). before ++ cs) (sym last) ∙ sym of.2)

-- all entries are of the first round or later ones
none_early : (first : ℕ) (journals : List RoundJournal) → AreInRounds first journals → AllByRecursion (λ (c : Choice). first ≤ c.asked.key.round) (entries_of journals)
none_early first [] are = tt
none_early first (j ∷ journals) are =
    all_append (λ (c : Choice). first ≤ c.asked.key.round) j.entries (entries_of journals)
    (all_weaker (λ (c : Choice). c.asked.key.round ≡ first) (λ (c : Choice). first ≤ c.asked.key.round) j.entries (λ c is. omega arith) are.0)
    (all_weaker (λ (c : Choice). first + 1 ≤ c.asked.key.round) (λ (c : Choice). first ≤ c.asked.key.round) (entries_of journals) (λ c later. omega arith) (none_early (first + 1) journals are.1))

-- those behind so many rounds are of later ones
past_rounds : (first n : ℕ) (journals : List RoundJournal) → AreInRounds first journals → AllByRecursion (λ (c : Choice). first + n ≤ c.asked.key.round) (entries_of (drop n journals))
past_rounds first zero journals are =
    all_weaker (λ (c : Choice). first ≤ c.asked.key.round) (λ (c : Choice). first + zero ≤ c.asked.key.round) (entries_of journals) (λ c at. omega arith) (none_early first journals are)
past_rounds first (suc n) [] are = tt
past_rounds first (suc n) (j ∷ journals) are =
    all_weaker (λ (c : Choice). (first + 1) + n ≤ c.asked.key.round) (λ (c : Choice). first + suc n ≤ c.asked.key.round) (entries_of (drop n journals)) (λ c at. omega arith)
    (past_rounds (first + 1) n journals are.1)

all_past : (tops : List TopSize) (report : List ℕ) (journals : List RoundJournal) → IsSpelled tops report journals → (rounds : ℕ) → AllByRecursion (IsPast rounds) (entries_of (drop rounds journals))
all_past tops report journals spelled rounds =
    all_weaker (λ (c : Choice). 1 + rounds ≤ c.asked.key.round) (IsPast rounds) (entries_of (drop rounds journals)) (λ c at. omega arith)
    (past_rounds 1 rounds journals (spelled_in_rounds tops 1 (lines_of_rounds report) journals spelled.rounds))

-- all that is spelled are the entries of these rounds, and then those of later ones
pub entries_behind : (tops : List TopSize) (report : List ℕ) (journals : List RoundJournal) → IsSpelled tops report journals → (rounds : ℕ) (places : List Choice) → AreOfRounds (AreSpelledIn journals) rounds places
    → (later : List Choice) × (entries_of journals ≡ places ++ later) × AllByRecursion (λ (c : Choice). rounds < c.asked.key.round) later
entries_behind tops report journals spelled rounds places of =
    (entries_of (drop rounds journals), first_spelled journals rounds places of, all_past tops report journals spelled rounds)

none_spelled : (journals : List RoundJournal) → AllByRecursion (λ (j : RoundJournal). j.entries ≡ []) journals → entries_of journals ≡ []
none_spelled [] none = refl
none_spelled (j ∷ journals) none = λ i. none.0 i ++ none_spelled journals none.1 i

-- where none is spelled of later rounds these are all
pub none_behind : (journals : List RoundJournal) (rounds : ℕ) (places : List Choice) → AreOfRounds (AreSpelledIn journals) rounds places
    → AllByRecursion (λ (j : RoundJournal). j.entries ≡ []) (drop rounds journals) → entries_of journals ≡ places
none_behind journals rounds places of none =
    first_spelled journals rounds places of
    ∙ ap (λ (cs : List Choice). places ++ cs) (none_spelled (drop rounds journals) none)
    ∙ append-nil places

-- ---- entries of later rounds than the course has

both_empty : (xs ys : List Choice) → xs ++ ys ≡ [] → (xs ≡ []) × (ys ≡ [])
both_empty [] ys is = (refl, is)
both_empty (x ∷ xs) ys is = absurd (cc)

each_empty : (journals : List RoundJournal) → entries_of journals ≡ [] → AllByRecursion (λ (j : RoundJournal). j.entries ≡ []) journals
each_empty [] is = tt
each_empty (j ∷ journals) is = let both = both_empty j.entries (entries_of journals) is in (both.0, each_empty journals both.1)

none_within : (rounds : ℕ) (cs : List Choice) → AllByRecursion (λ (c : Choice). IsWithin 1 rounds c.asked.key.round) cs → AllByRecursion (IsPast rounds) cs → cs ≡ []
none_within rounds [] within past = refl
none_within rounds (c ∷ cs) within past =
    let high : c.asked.key.round < 1 + rounds = within.0.high in
    let low : rounds < c.asked.key.round = past.0 in
    absurd (omega arith)

no_past : (rounds number : ℕ) (later : List Choice) → number ≤ rounds → AllByRecursion (IsPast rounds) later → choices_in number later ≡ []
no_past rounds number [] few past = refl
no_past rounds number (c ∷ later) few past =
    let low : rounds < c.asked.key.round = past.0 in
    cond-false (c.asked.key.round == number) (c ∷ choices_in number later) (choices_in number later) (ne_eqb c.asked.key.round number (λ same. omega arith))
    ∙ no_past rounds number later few past.1

-- entries of later rounds than a course has don't change it
pub course_behind : (script : Script) (images : Images) (j : Journal) → j.rounds ≡ length (rounds_of (run_script script images j.places).events)
    → (later : List Choice) → AllByRecursion (λ (c : Choice). j.rounds < c.asked.key.round) later → run_script script images (j.places ++ later) ≡ run_script script images j.places
course_behind script images j rounds later past =
    sym (course_until script images j.places (j.places ++ later)
    (λ number (few : number ≤ length (rounds_of (run_script script images j.places).events)).
    sym (filter-append (λ (c : Choice). c.asked.key.round == number) j.places later
    ∙ ap (λ (cs : List Choice). choices_in number j.places ++ cs) (no_past j.rounds number later (omega arith) past)
    ∙ append-nil (choices_in number j.places))))

-- Where a report spells entries behind those of a course's rounds, and the course has no more rounds under them, they aren't
-- lawful. `course_behind` says that it has no more.
pub some_behind : (c : Case) (script : Script) (journals : List RoundJournal) → IsReadAs c script journals → (j : Journal) → AreOfRounds (AreSpelledIn journals) j.rounds j.places
    → ((later : List Choice) → AllByRecursion (λ (e : Choice). j.rounds < e.asked.key.round) later → run_script script c.before (j.places ++ later) ≡ run_script script c.before j.places)
    → j.rounds ≡ length (rounds_of (run_script script c.before j.places).events)
    → ¬ AllByRecursion (λ (r : RoundJournal). r.entries ≡ []) (drop j.rounds journals) → ¬ HasLawfulEntries script c.before (journal_spelled script c.before journals)
some_behind c script journals read j of same rounds some lawful =
    let all : List Choice = entries_of journals in
    let later : List Choice = entries_of (drop j.rounds journals) in
    let is : all ≡ j.places ++ later = first_spelled journals j.rounds j.places of in
    let past : AllByRecursion (IsPast j.rounds) later = all_past (sizes_of (tops_of script c.before)) c.report journals read.spelled j.rounds in
    let many : length (rounds_under script c.before all) ≡ j.rounds =
    ap (λ (cs : List Choice). length (rounds_under script c.before cs)) is
    ∙ ap (λ (ran : Course). length (rounds_of ran.events)) (same later past)
    ∙ sym rounds in
    let within : AllByRecursion (λ (e : Choice). IsWithin 1 (length (rounds_under script c.before all)) e.asked.key.round) all =
    all_within (run_script script c.before all).events (λ (e : Choice). e.asked.key.round) all
    (told_run script c.before all (script_named c.script script read.script_is.accepted)) lawful.of_rounds in
    let inside : AllByRecursion (λ (e : Choice). IsWithin 1 j.rounds e.asked.key.round) (j.places ++ later) =
    subst (AllByRecursion (λ (e : Choice). IsWithin 1 j.rounds e.asked.key.round)) is
    (subst (λ n. AllByRecursion (λ (e : Choice). IsWithin 1 n e.asked.key.round) all) many within) in
    some (each_empty (drop j.rounds journals)
    (none_within j.rounds later (all_right (λ (e : Choice). IsWithin 1 j.rounds e.asked.key.round) j.places later inside) past))

-- ---- a round whose choices these aren't

-- what holds of all rounds holds of the one that comes next
next_round : (P : Round → Type 0) (events later : List Event) (round : Round) → AllByRecursion P (rounds_of (events ++ RanRound round ∷ later)) → P round
next_round P [] later round all = all.0
next_round P (RanRound r ∷ events) later round all = next_round P events later round all.1
next_round P (HeldBatch b ∷ events) later round all = next_round P events later round all

-- the entries of a round are its own among themselves
own_again : (n : ℕ) (entries : List Choice) → choices_in n (choices_in n entries) ≡ choices_in n entries
own_again n entries = all_of (λ (c : Choice). c.asked.key.round) n (choices_in n entries) (choices_round n entries)

module _ (c : Case) (script : Script) (journals : List RoundJournal) (read : IsReadAs c script journals) where
  -- what is spelled of the round that comes next is what all that is spelled has of it
  own_spelled : (state : State) (t : Terms) → AreNextTerms script c.before state t → choices_in t.round (entries_of journals) ≡ entries_in journals t.round
  own_spelled state t next =
      let round : t.round ≡ state.rounds + 1 = next.round in
      choices_spelled (sizes_of (tops_of script c.before)) (lines_of_rounds c.report) journals read.spelled.rounds t.round (omega arith)

  -- this round is the same under what is spelled of it, and with the places in use in another order
  settled_spelled : (state : State) (t : Terms) (trees : List (List Pending)) (images : Images) → AreNextTerms script c.before state t → images ≡ state.images
      → settle_each (entries_of journals) (terms_of (plan_of script c.before (entries_of journals)) state) trees state.images ≡ settle_each (entries_in journals t.round) t trees images
  settled_spelled state t trees images next images_are =
      let all : List Choice = entries_of journals in
      let own : List Choice = entries_in journals t.round in
      let terms : Terms = terms_of (plan_of script c.before all) state in
      let same : choices_in t.round all ≡ choices_in t.round own = sym (own_again t.round all) ∙ ap (choices_in t.round) (own_spelled state t next) in
      choices_law all own terms trees state.images (subst (λ n. choices_in n all ≡ choices_in n own) next.round same)
      ∙ used_law own terms t.used trees state.images next.used
      ∙ (λ i. settle_each own (record { setting = sym next.setting i; failmode = sym next.failmode i; round = sym next.round i; used = t.used }) trees (sym images_are i))

  -- so where the course's entries of it are its choices, what is spelled of it is so
  chosen_next : (state : State) (t : Terms) (trees : List (List Pending)) (images : Images) → AreNextTerms script c.before state t → images ≡ state.images
      → AreChoicesOf (sizes_of (tops_of script c.before)) (used_places state.bound)
      (settle_each (entries_of journals) (terms_of (plan_of script c.before (entries_of journals)) state) trees state.images).asks (choices_in (state.rounds + 1) (entries_of journals))
      → ChoseSpelled journals t trees images
  chosen_next state t trees images next images_are chosen =
      let all : List Choice = entries_of journals in
      let own : List Choice = entries_in journals t.round in
      let sizes : List TopSize = sizes_of (tops_of script c.before) in
      let ran : Ran = settle_each all (terms_of (plan_of script c.before all) state) trees state.images in
      let spelled : choices_in (state.rounds + 1) all ≡ own = ap (λ n. choices_in n all) (sym next.round) ∙ own_spelled state t next in
      let same : ran ≡ settle_each own t trees images = settled_spelled state t trees images next images_are in
      subst (λ (setting : Setting). AreChoicesOf (sizes_of setting.tops) t.used (settle_each own t trees images).asks own) (sym next.setting)
      (subst (λ (r : Ran). AreChoicesOf sizes t.used r.asks own) same
      (subst (AreChoicesOf sizes t.used ran.asks) spelled
      (choices_same sizes (used_places state.bound) t.used ran.asks (choices_in (state.rounds + 1) all) next.used chosen)))

  -- what is spelled of a round is its choices
  abbrev IsChosen : Round → Type 0
  IsChosen round = AreChoicesOf (sizes_of (tops_of script c.before)) round.used round.asks (choices_in round.number (entries_of journals))

  module _ (j : Journal) (of : AreOfRounds (AreSpelledIn journals) j.rounds j.places) (events : List Event) where
    -- the course under all that is spelled goes on from where it has come
    lawful_course : (rest : Plan → Course) → Reaches script c.before j events rest → HasLawfulEntries script c.before (journal_spelled script c.before journals)
        → IsLawfulJournal (sizes_of (tops_of script c.before)) (rounds_of (add_events events (rest (plan_of script c.before (entries_of journals)))).events) (entries_of journals)
    lawful_course rest reached lawful =
        let all : List Choice = entries_of journals in
        let later : List Choice = entries_of (drop j.rounds journals) in
        let goes : run_script script c.before all ≡ add_events events (rest (plan_of script c.before all)) =
        subst (λ (cs : List Choice). run_script script c.before cs ≡ add_events events (rest (plan_of script c.before cs))) (sym (first_spelled journals j.rounds j.places of))
        (reached later (all_past (sizes_of (tops_of script c.before)) c.report journals read.spelled j.rounds)) in
        subst (λ (ran : Course). IsLawfulJournal (sizes_of (tops_of script c.before)) (rounds_of ran.events) all) goes lawful

    -- where all that is spelled is lawful, the round that comes next chose what is spelled of it
    next_chosen : (t : Terms) (trees : List (List Pending)) (images : Images) → GoesOn script c.before j events t trees images
        → HasLawfulEntries script c.before (journal_spelled script c.before journals) → ChoseSpelled journals t trees images
    next_chosen t trees images (WithBatch state batch rest reached next images_are trees_are) lawful =
        let course = lawful_course (λ plan. then_course (run_batch plan batch state) (rest plan)) reached lawful in
        subst (λ (ts : List (List Pending)). ChoseSpelled journals t ts images) (sym trees_are)
        (chosen_next state t (pending_trees state.bound batch.number (admitted state.suspended (is_bound state.bound) (trees_of batch.requests)).trees) images next images_are
        (next_round IsChosen events _ _ course.each))
    next_chosen t trees images (WithSuspended state rest reached next images_are trees_are) lawful =
        let course = lawful_course (λ plan. then_course (run_suspended plan state) (rest plan)) reached lawful in
        subst (λ (ts : List (List Pending)). ChoseSpelled journals t ts images) (sym trees_are)
        (chosen_next state t state.suspended images next images_are (next_round IsChosen events _ _ course.each))

-- Where a run was stopped for want of memory in a round whose choices aren't what a report spells of it, all that the report
-- spells isn't lawful.
pub strange_is_unlawful : (c : Case) (script : Script) (journals : List RoundJournal) → IsReadAs c script journals → (show : Show) (n : RunSize) (w : Stopping) (j : Journal) (after : Images) (text : List ℕ)
    → IsCut show n script c.before (tops_of script c.before) w Memory j after text → w.stopped ≡ true
    → ((t : Terms) (trees : List (List Pending)) (images : Images) → w.means t trees images → ¬ ChoseSpelled journals t trees images)
    → AreOfRounds (AreSpelledIn journals) j.rounds j.places → ¬ HasLawfulEntries script c.before (journal_spelled script c.before journals)
strange_is_unlawful c script journals read show n w j after text cut stopped strange of lawful =
    ⊎_elim
    (λ (between : IsBetween c.before w cut.events after). absurd (true≢false (sym stopped ∙ between.0)))
    (λ (broken : IsBroken script c.before (tops_of script c.before) w NoMemory j cut.events after).
    ⊎_elim
    (λ means. strange broken.terms broken.trees _ means.1 (next_chosen c script journals read j of cut.events broken.terms broken.trees _ broken.goes_on lawful))
    (λ whole. absurd (true≢false (sym stopped ∙ whole.0))) broken.cut)
    cut.images
