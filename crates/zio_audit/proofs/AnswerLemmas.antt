-- An answer of yes is one run, and no case has two answers.
use Rattle.std.proofs.Common.{◌≡◌, List, refl, sym, ap, subst, ◌∙◌, ⊎_elim}
use Rattle.std.proofs.lemmas.Bool.{cases_order}
use Rattle.zio_types.specs.declared.journal.Journal.{Journal}
use Rattle.zio_script.specs.declared.script.Script.{Script}
use Rattle.zio_cksum.specs.Images.{Images}
use Rattle.zio_gang.specs.Trees.{sizes_of}
use Rattle.zio_report.specs.Meanings.{course_of, tops_of}
use Rattle.zio_spelled.specs.declared.rounds.RoundJournal.{RoundJournal}
use Rattle.zio_audit.specs.declared.verdict.Verdict.{Verdict}
use Rattle.zio_audit.specs.declared.verdict.Verdict.TheVariants.{Yes, No}
use Rattle.zio_audit.specs.declared.verdict.Why.TheVariants.{Places as OfPlaces, Completions as OfCompletions, Text as OfText, Images as OfImages}
use Rattle.zio_audit.specs.Laws.{IsRun}
use Rattle.zio_audit.specs.Verdicts.{Case, HasCompletions, IsReadAs, IsTextOf, IsVerdict, OfRun, journal_spelled, why_number}
use Rattle.zio_audit.proofs.ShapeLemmas.{spelled_shaped}
use Rattle.zio_audit.proofs.VerdictLemmas.{read_once, yes}

-- what stands for some script and journals stands for those that the case is read as
stands_for : (c : Case) (s : Script) (js : List RoundJournal) (Stands : Script → Images → Journal → Type 0) → IsReadAs c s js → OfRun c Stands
    → Stands s c.before (journal_spelled s c.before js)
stands_for c s js Stands read of =
    let same = read_once c of.script s of.journals js of.read read in
    subst (λ (ks : List RoundJournal). Stands s c.before (journal_spelled s c.before ks)) same.journals
    (subst (λ (u : Script). Stands u c.before (journal_spelled u c.before of.journals)) same.script of.stands)

pub yes_run : (c : Case) → IsVerdict c Yes → IsRun c
yes_run c stands =
    let of = stands OfPlaces in
    record {
      script = of.script;
      journals = of.journals;
      read = of.read;
      places = of.stands;
      completions = stands_for c of.script of.journals HasCompletions of.read (stands OfCompletions);
      text = stands_for c of.script of.journals (λ script images j. IsTextOf script images j c.report) of.read (stands OfText);
      images = stands_for c of.script of.journals (λ script images j. c.after ≡ (course_of script images j).state.images) of.read (stands OfImages);
    }

pub run_yes : (c : Case) → IsRun c → IsVerdict c Yes
run_yes c run =
    yes c (run.script, run.read.script_is) (spelled_shaped (sizes_of (tops_of run.script c.before)) c.report run.journals run.read.spelled)
    (record { script = run.script; journals = run.journals; read = run.read; stands = run.places })
    (record { script = run.script; journals = run.journals; read = run.read; stands = run.completions })
    (record { script = run.script; journals = run.journals; read = run.read; stands = run.text })
    (record { script = run.script; journals = run.journals; read = run.read; stands = run.images })

pub one_verdict : (c : Case) (one other : Verdict) → IsVerdict c one → IsVerdict c other → one ≡ other
one_verdict c Yes Yes h k = refl
one_verdict c Yes (No number) h k = absurd (k.2.holds (h k.0))
one_verdict c (No number) Yes h k = absurd (h.2.holds (k h.0))
one_verdict c (No one) (No other) h k =
    ⊎_elim
    (λ same. ap No (h.1 ∙ same ∙ sym k.1))
    (λ apart. ⊎_elim (λ less. absurd (h.2.holds (k.2.first h.0 less))) (λ more. absurd (k.2.holds (h.2.first k.0 more))) apart)
    (cases_order (why_number h.0) (why_number k.0))
