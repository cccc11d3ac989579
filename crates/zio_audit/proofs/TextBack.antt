-- The text of a script's run is read back as the run's journal.
use Rattle.std.proofs.Common.{◌≡◌, ◌+◌, ◌++◌, ◌==◌, ℕ, zero, suc, List, [], ◌∷◌, length, refl, sym, ap, subst, ◌∙◌, Bool, true, arith}
use Rattle.std.specs.Prelude.{IsTrue}
use Rattle.std.specs.List.{AllByRecursion, flat_map, list_any}
use Rattle.zio_types.specs.declared.journal.Completion.{Completion}
use Rattle.zio_types.specs.declared.journal.Journal.{Journal}
use Rattle.zio_types.specs.declared.place.TopSize.{TopSize}
use Rattle.zio_types.specs.Choices.{Choice}
use Rattle.zio_script.specs.declared.script.Request.{Request}
use Rattle.zio_script.specs.declared.script.Script.{Script}
use Rattle.zio_script.specs.Grammar.{IsScriptOf}
use Rattle.zio_script.specs.Requests.{requests_of}
use Rattle.zio_script.specs.Whys.{tells_reads_apart}
use Rattle.zio_script.proofs.AcceptedLemmas.{reading_orderly}
use Rattle.zio_cksum.specs.Images.{Images}
use Rattle.zio_cksum.proofs.AllLemmas.{all_append, all_filter, all_weaker}
use Rattle.zio_gang.specs.Journals.{AreChoicesOf, AreCompletions, IsLawfulJournal, choices_in, completions_in, is_round_of}
use Rattle.zio_gang.specs.Runs.{Course, Event, Round, ending, rounds_of}
use Rattle.zio_gang.specs.Runs.Event.{RanRound, HeldBatch}
use Rattle.zio_gang.specs.Trees.{sizes_of}
use Rattle.zio_report.specs.declared.report.Show.TheVariants.{Report}
use Rattle.zio_report.specs.Lines.{head_text, journal_text, line_text}
use Rattle.zio_report.specs.Meanings.{course_of, records_of, run_size_of, tops_of}
use Rattle.zio_report.specs.Reports.{Records, end_text, event_text, head_of, pool_text, run_text, lines_of as lines_in}
use Rattle.zio_spelled.specs.Rounds.{IsSpelled}
use Rattle.zio_audit.specs.Texts.{FitsTypes, IsReadBack, IsRunWith, journal_back, journals_from, journals_of, text_of_run}
use Rattle.zio_audit.specs.Completions.{completions_from}
use Rattle.zio_audit.specs.Verdicts.{HasCompletions, entries_of, orders_of}
use Rattle.zio_audit.proofs.TextCourses.{course_same}
use Rattle.zio_audit.proofs.TextDue.{by_rounds, from_by_rounds, rounds_lawful}
use Rattle.zio_audit.proofs.TextLines.{AreToldFrom}
use Rattle.zio_audit.proofs.TextNames.{script_named, told_run}
use Rattle.zio_audit.proofs.TextPrinted.{IsWithin, all_within, completions_back, count_from, entries_back, good_rounds}
use Rattle.zio_audit.proofs.TextRuns.{Follows, batches_among, script_follows}
use Rattle.zio_audit.proofs.TextSpells.{run_spells}

-- ---- the text

-- records with the same entries and completions in each round
abbrev SameRecords : Records → Records → Type 0
SameRecords j k = (number : ℕ) → (choices_in number j.choices ≡ choices_in number k.choices) × (completions_in number j.completions ≡ completions_in number k.completions)

-- they give the same text of an event
event_same : (bytes : Bool) (j k : Records) (event : Event) → SameRecords j k → event_text (Report true bytes) j event ≡ event_text (Report true bytes) k event
event_same bytes j k (RanRound round) same =
    λ i. head_text (head_of round) ++ flat_map (line_text bytes) (lines_in round) ++ journal_text ((same round.number).0 i) ((same round.number).1 i)
event_same bytes j k (HeldBatch batch) same = refl

-- and of all events
events_same : (bytes : Bool) (j k : Records) (events : List Event) → SameRecords j k → flat_map (event_text (Report true bytes) j) events ≡ flat_map (event_text (Report true bytes) k) events
events_same bytes j k [] same = refl
events_same bytes j k (event ∷ events) same = λ i. event_same bytes j k event same i ++ events_same bytes j k events same i

-- ---- lawful entries

-- what holds of all entries holds of those that are read back
all_back : (P : Choice → Type 0) (j : Records) (first rounds : ℕ) → AllByRecursion P j.choices → AllByRecursion P (entries_of (journals_from j first rounds))
all_back P j first zero all = tt
all_back P j first (suc rounds) all =
    all_append P (choices_in first j.choices) (entries_of (journals_from j (first + 1) rounds))
    (all_filter P (λ (c : Choice). c.asked.key.round == first) j.choices (all_weaker P (λ (c : Choice). (c.asked.key.round == first) ≡ true → P c) j.choices (λ c h is. h) all))
    (all_back P j (first + 1) rounds all)

-- entries that are lawful are so when they are read back
lawful_back : (sizes : List TopSize) (ran : List Round) (j : Journal) (rounds : ℕ)
    → ((number : ℕ) → choices_in number (entries_of (journals_from (records_of j) 1 rounds)) ≡ choices_in number j.places)
    → IsLawfulJournal sizes ran j.places → IsLawfulJournal sizes ran (entries_of (journals_from (records_of j) 1 rounds))
lawful_back sizes ran j rounds same lawful = record {
  of_rounds = all_back (λ (c : Choice). IsTrue (list_any (is_round_of c.asked.key.round) ran)) (records_of j) 1 rounds lawful.of_rounds;
  each = all_weaker (λ (round : Round). AreChoicesOf sizes round.used round.asks (choices_in round.number j.places))
      (λ (round : Round). AreChoicesOf sizes round.used round.asks (choices_in round.number (entries_of (journals_from (records_of j) 1 rounds)))) ran
      (λ round are. subst (AreChoicesOf sizes round.used round.asks) (sym (same round.number)) are) lawful.each;
}

-- ---- lawful completions

-- where a course has these completions in each round, those that are read back are lawful
completions_lawful : (text : List ℕ) (script : Script) (images : Images) (j : Journal) → IsScriptOf text script → IsRunWith script images j
    → course_of script images (journal_back script images j) ≡ course_of script images j
    → ((number : ℕ) → completions_in number (journal_back script images j).completions ≡ completions_in number j.completions) → HasCompletions script images (journal_back script images j)
completions_lawful text script images j is run same completions =
    let course : Course = course_of script images j in
    let k : Journal = journal_back script images j in
    let requests : List Request = requests_of script.items in
    let orderly = reading_orderly text script is in
    let told : AreToldFrom 1 course.events = told_run script images j.places (script_named text script is) in
    let follows : Follows _ course = script_follows (tells_reads_apart script) script images j.places orderly in
    let whole : k.completions ≡ by_rounds j.completions 1 j.rounds =
    ap (λ (ran : Course). completions_from (rounds_of ran.events) 1 (orders_of (journals_of j))) same
    ∙ from_by_rounds requests (rounds_of course.events) j 1 j.rounds run.completions in
    let lawful : AreCompletions requests (rounds_of course.events) (by_rounds j.completions 1 j.rounds) =
    rounds_lawful follows.0 course.events requests told follows.1.closed orderly.rising
    (λ f. omega (arith, follows.1.sum f, batches_among f script.items)) j.completions j.rounds run.completions
    (λ number. ap (completions_in number) (sym whole) ∙ completions number) in
    subst (λ (ran : Course). AreCompletions requests (rounds_of ran.events) k.completions) (sym same) (subst (AreCompletions requests (rounds_of course.events)) (sym whole) lawful)

-- ---- the law

-- the text of a script's run is read back as the run's journal
pub read_back : (text : List ℕ) (script : Script) (images : Images) (j : Journal) → IsScriptOf text script → IsRunWith script images j → FitsTypes j → IsReadBack script images j
read_back text script images j is run fits =
    let sizes : List TopSize = sizes_of (tops_of script images) in
    let course : Course = course_of script images j in
    let k : Journal = journal_back script images j in
    let told : AreToldFrom 1 course.events = told_run script images j.places (script_named text script is) in
    let rounds : j.rounds ≡ length (rounds_of course.events) = run.rounds in
    let of_rounds : AllByRecursion (λ (c : Choice). IsWithin 1 j.rounds c.asked.key.round) j.places =
    subst (λ n. AllByRecursion (λ (c : Choice). IsWithin 1 n c.asked.key.round) j.places) (sym rounds)
    (all_within course.events (λ (c : Choice). c.asked.key.round) j.places told run.places.of_rounds) in
    let completed : AllByRecursion (λ (c : Completion). IsWithin 1 j.rounds c.round) j.completions =
    subst (λ n. AllByRecursion (λ (c : Completion). IsWithin 1 n c.round) j.completions) (sym rounds)
    (all_within course.events (λ (c : Completion). c.round) j.completions told run.completions.of_rounds) in
    let entries : (number : ℕ) → choices_in number k.places ≡ choices_in number j.places = entries_back j j.rounds of_rounds in
    let same : course_of script images k ≡ course = course_same script images k.places j.places entries in
    let completions : (number : ℕ) → completions_in number k.completions ≡ completions_in number j.completions =
    λ number.
    ap (λ (c : Course). completions_in number (completions_from (rounds_of c.events) 1 (orders_of (journals_of j)))) same
    ∙ completions_back (requests_of script.items) (rounds_of course.events) j j.rounds run.completions completed number in
    record {
      spelled = λ bytes.
          subst (λ n. IsSpelled sizes (text_of_run true bytes script images j) (journals_from (records_of j) 1 n)) (sym rounds)
          (run_spells sizes bytes (run_size_of script images) (records_of j) course.events (ending course.state) told
          (good_rounds sizes j (rounds_of course.events) fits run.places.each));
      course = same;
      entries = entries;
      completions = completions;
      text = λ bytes.
          let size = run_size_of script images in
          ap (λ (c : Course). run_text (Report true bytes) size (records_of k) c.events (ending c.state)) same
          ∙ ap (λ (told_text : List ℕ). pool_text size.tops size.images ++ told_text ++ end_text (ending course.state))
          (events_same bytes (records_of k) (records_of j) course.events (λ number. (entries number, completions number)));
      lawful = record {
        places = subst (λ (c : Course). IsLawfulJournal sizes (rounds_of c.events) k.places) (sym same)
            (lawful_back sizes (rounds_of course.events) j j.rounds entries run.places);
        rounds = count_from (records_of j) 1 j.rounds ∙ rounds ∙ ap (λ (c : Course). length (rounds_of c.events)) (sym same);
        completions = completions_lawful text script images j is run same completions;
      };
    }
