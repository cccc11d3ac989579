-- Yes is the answer exactly of a headline: what is read back of a script's run makes the run again.
use Rattle.std.proofs.Common.{◌≡◌, ◌<◌, ◌+◌, ◌^◌, ℕ, List, [], ◌∷◌, length, map, refl, sym, ap, subst, ◌∙◌, true}
use Rattle.std.specs.Prelude.{◌↔◌}
use Rattle.std.specs.List.{AllByRecursion, AllZip, concat}
use Rattle.zio_types.specs.declared.journal.Completion.{Completion}
use Rattle.zio_types.specs.declared.journal.Journal.{Journal}
use Rattle.zio_types.specs.declared.place.TopSize.{TopSize}
use Rattle.zio_types.specs.Choices.{Choice}
use Rattle.zio_script.specs.declared.script.Script.{Script}
use Rattle.zio_script.specs.Words.{Word}
use Rattle.zio_gang.specs.declared.ending.Ending.{Ending}
use Rattle.zio_gang.specs.Runs.{Course, Round, ending, rounds_of}
use Rattle.zio_gang.specs.Trees.{sizes_of}
use Rattle.zio_cksum.proofs.AllLemmas.{all_append, all_map}
use Rattle.zio_report.specs.declared.report.Show.TheVariants.{Report}
use Rattle.zio_report.specs.Meanings.{course_of, records_of, run_size_of, tops_of}
use Rattle.zio_report.specs.Reports.{end_code, run_text}
use Rattle.zio_spelled.specs.declared.rounds.RoundJournal.{RoundJournal}
use Rattle.zio_spelled.specs.Rounds.{AreJournals, IsSpelled, lines_of_rounds}
use Rattle.zio_spelled.specs.Spelled.{ChoiceFits, IsOrder, IsTake}
use Rattle.zio_spelled.proofs.PrintLemmas.{report_spells_one}
use Rattle.zio_audit.specs.declared.verdict.Verdict.TheVariants.{Yes}
use Rattle.zio_audit.specs.Completions.{completion_spelled, completions_from}
use Rattle.zio_audit.specs.Laws.{IsRun}
use Rattle.zio_audit.specs.Texts.{FitsTypes, IsHeadline, IsReadBack, IsRunWith, journals_from, journals_of, text_of_run}
use Rattle.zio_audit.specs.Verdicts.{Case, IsVerdict, entries_of, journal_spelled, orders_of}
use Rattle.zio_audit.proofs.AnswerLemmas.{run_yes, yes_run}
use Rattle.zio_audit.proofs.TextBack.{read_back}
use Rattle.zio_audit.proofs.TextNames.{script_named, told_run}
use Rattle.zio_audit.proofs.TextPrinted.{count_from, good_rounds}
use Rattle.zio_audit.proofs.TextSpells.{run_spells}

-- a headline's case is one run
pub headline_run : (c : Case) → IsHeadline c → IsRun c
headline_run c h =
    let script : Script = h.script in
    let j : Journal = h.journal in
    let run : IsRunWith script c.before j = record { places = h.means.run.places; rounds = h.means.run.rounds; completions = h.means.run.completions } in
    let back : IsReadBack script c.before j = read_back c.script script c.before j h.script_is.accepted run h.fits in
    let course : Course = course_of script c.before j in
    let text : c.report ≡ text_of_run true h.bytes script c.before j =
    h.means.run.report ∙ ap (λ (end : Ending). run_text (Report true h.bytes) (run_size_of script c.before) (records_of j) course.events end) h.means.run.ending_is in
    record {
      script = script;
      journals = journals_of j;
      read = record {
        script_is = h.script_is;
        spelled = subst (λ (report : List ℕ). IsSpelled (sizes_of (tops_of script c.before)) report (journals_of j)) (sym text) (back.spelled h.bytes);
      };
      places = back.lawful.places;
      completions = back.lawful.completions;
      text = record { bytes = h.bytes; text = text ∙ sym (back.text h.bytes) };
      images = h.means.run.images ∙ ap (λ (ran : Course). ran.state.images) (sym back.course);
    }

-- ---- back

-- what the lines of a round spell fits its types
takes_fit : (tops : List TopSize) (number : ℕ) (lines : List Word) (entries : List Choice) → AllZip (IsTake tops number) lines entries → AllByRecursion ChoiceFits entries
takes_fit tops number [] [] takes = tt
takes_fit tops number [] (c ∷ entries) takes = absurd takes
takes_fit tops number (line ∷ lines) [] takes = absurd takes
takes_fit tops number (line ∷ lines) (c ∷ entries) takes = (takes.0.fits, takes_fit tops number lines entries takes.1)

-- so do the numbers of its completions
orders_fit : (lines : List Word) (orders : List (List ℕ)) → AllZip IsOrder lines orders → AllByRecursion (λ n. n < 2 ^ 32) (concat orders)
orders_fit [] [] are = tt
orders_fit [] (order ∷ orders) are = absurd are
orders_fit (line ∷ lines) [] are = absurd are
orders_fit (line ∷ lines) (order ∷ orders) are = all_append (λ n. n < 2 ^ 32) order (concat orders) are.0.fits (orders_fit lines orders are.1)

-- so do the entries of all rounds
entries_fit : (tops : List TopSize) (number : ℕ) (rounds : List (List Word)) (journals : List RoundJournal) → AreJournals tops number rounds journals → AllByRecursion ChoiceFits (entries_of journals)
entries_fit tops number [] [] are = tt
entries_fit tops number [] (j ∷ journals) are = absurd are
entries_fit tops number (lines ∷ rounds) [] are = absurd are
entries_fit tops number (lines ∷ rounds) (j ∷ journals) are =
    all_append ChoiceFits j.entries (entries_of journals) (takes_fit tops number _ j.entries are.0.entries) (entries_fit tops (number + 1) rounds journals are.1)

-- so do the completions of all rounds
completions_fit : (tops : List TopSize) (ran : List Round) (number : ℕ) (rounds : List (List Word)) (journals : List RoundJournal) → AreJournals tops number rounds journals
    → AllByRecursion (λ (d : Completion). d.request < 2 ^ 32) (completions_from ran number (orders_of journals))
completions_fit tops ran number [] [] are = tt
completions_fit tops ran number [] (j ∷ journals) are = absurd are
completions_fit tops ran number (lines ∷ rounds) [] are = absurd are
completions_fit tops ran number (lines ∷ rounds) (j ∷ journals) are =
    all_append (λ (d : Completion). d.request < 2 ^ 32) (map (completion_spelled ran number) j.order) (completions_from ran (number + 1) (orders_of journals))
    (all_map (λ (d : Completion). d.request < 2 ^ 32) (completion_spelled ran number) j.order
    (subst (AllByRecursion (λ n. n < 2 ^ 32)) (sym are.0.order_is) (orders_fit _ are.0.orders are.0.order_lines)))
    (completions_fit tops ran (number + 1) rounds journals are.1)

-- one run is a headline, with the journal that its report spells
pub run_headline : (c : Case) → IsRun c → IsHeadline c
run_headline c run =
    let script : Script = run.script in
    let tops : List TopSize = sizes_of (tops_of script c.before) in
    let k : Journal = journal_spelled script c.before run.journals in
    let course : Course = course_of script c.before k in
    let fits : FitsTypes k = record {
      entries = entries_fit tops 1 (lines_of_rounds c.report) run.journals run.read.spelled.rounds;
      completions = completions_fit tops (rounds_of course.events) 1 (lines_of_rounds c.report) run.journals run.read.spelled.rounds;
    } in
    let again : IsSpelled tops (text_of_run true run.text.bytes script c.before k) (journals_from (records_of k) 1 (length (rounds_of course.events))) =
    run_spells tops run.text.bytes (run_size_of script c.before) (records_of k) course.events (ending course.state) (told_run script c.before k.places (script_named c.script script run.read.script_is.accepted))
    (good_rounds tops k (rounds_of course.events) fits run.places.each) in
    let same : run.journals ≡ journals_from (records_of k) 1 (length (rounds_of course.events)) =
    report_spells_one tops c.report run.journals (journals_from (records_of k) 1 (length (rounds_of course.events))) run.read.spelled
    (subst (λ (report : List ℕ). IsSpelled tops report (journals_from (records_of k) 1 (length (rounds_of course.events)))) (sym run.text.text) again) in
    record {
      script = script;
      journal = k;
      bytes = run.text.bytes;
      code = end_code (ending course.state);
      script_is = run.read.script_is;
      fits = fits;
      means = record {
        end = ending course.state;
        run = record {
          images = run.images;
          report = run.text.text;
          places = run.places;
          rounds = ap length same ∙ count_from (records_of k) 1 (length (rounds_of course.events));
          completions = run.completions;
          ending_is = refl;
        };
        code_is = refl;
      };
    }

-- ---- the answer

-- yes is the answer exactly of a headline
pub yes_headline : (c : Case) → IsVerdict c Yes ↔ IsHeadline c
yes_headline c = ((λ yes. run_headline c (yes_run c yes)), (λ h. run_yes c (headline_run c h)))
