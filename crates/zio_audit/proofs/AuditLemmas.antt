-- The answer of an audit where the case is read as a script and journals: the first reason that applies to these. The two
-- that come before any reading, `no_script` and `no_lines`, are in VerdictLemmas.
use Rattle.std.proofs.Common.{◌≡◌, List}
use Rattle.zio_types.specs.declared.journal.Journal.{Journal}
use Rattle.zio_script.specs.declared.script.Script.{Script}
use Rattle.zio_cksum.specs.Images.{Images}
use Rattle.zio_gang.specs.Trees.{sizes_of}
use Rattle.zio_report.specs.Meanings.{course_of, tops_of}
use Rattle.zio_spelled.specs.declared.rounds.RoundJournal.{RoundJournal}
use Rattle.zio_audit.specs.declared.verdict.Verdict.TheVariants.{Yes, No}
use Rattle.zio_audit.specs.declared.verdict.Why.TheVariants.{Script as OfScript, Lines as OfLines}
use Rattle.zio_audit.specs.Verdicts.{Case, HasCompletions, HasLawfulEntries, IsReadAs, IsTextOf, IsVerdict, OfRun, Stands, journal_spelled}
use Rattle.zio_audit.proofs.ShapeLemmas.{spelled_shaped}
use Rattle.zio_audit.proofs.VerdictLemmas.{fails, no_completions as completions_fail, no_images as images_fail, no_places as places_fail, no_text as text_fails, yes}

-- what the text and the images have to be
abbrev HasText : Case → Script → Images → Journal → Type 0
HasText c script images j = IsTextOf script images j c.report

abbrev HasImages : Case → Script → Images → Journal → Type 0
HasImages c script images j = c.after ≡ (course_of script images j).state.images

module _ (c : Case) (script : Script) (journals : List RoundJournal) (read : IsReadAs c script journals) where
  script_stands : Stands OfScript c
  script_stands = (script, read.script_is)

  lines_stand : Stands OfLines c
  lines_stand = spelled_shaped (sizes_of (tops_of script c.before)) c.report journals read.spelled

  -- it stands for what the case is read as
  of_run : (P : Script → Images → Journal → Type 0) → P script c.before (journal_spelled script c.before journals) → OfRun c P
  of_run P stands = record { script = script; journals = journals; read = read; stands = stands }

  pub no_places : ¬ HasLawfulEntries script c.before (journal_spelled script c.before journals) → IsVerdict c (No 3)
  no_places not = places_fail c script_stands lines_stand (fails c script journals HasLawfulEntries read not)

  pub no_completions : HasLawfulEntries script c.before (journal_spelled script c.before journals)
      → ¬ HasCompletions script c.before (journal_spelled script c.before journals) → IsVerdict c (No 4)
  no_completions places not =
      completions_fail c script_stands lines_stand (of_run HasLawfulEntries places) (fails c script journals HasCompletions read not)

  pub no_text : HasLawfulEntries script c.before (journal_spelled script c.before journals)
      → HasCompletions script c.before (journal_spelled script c.before journals)
      → ¬ IsTextOf script c.before (journal_spelled script c.before journals) c.report → IsVerdict c (No 5)
  no_text places completions not =
      text_fails c script_stands lines_stand (of_run HasLawfulEntries places) (of_run HasCompletions completions) (fails c script journals (HasText c) read not)

  pub no_images : HasLawfulEntries script c.before (journal_spelled script c.before journals)
      → HasCompletions script c.before (journal_spelled script c.before journals)
      → IsTextOf script c.before (journal_spelled script c.before journals) c.report
      → ¬ (c.after ≡ (course_of script c.before (journal_spelled script c.before journals)).state.images) → IsVerdict c (No 6)
  no_images places completions text not =
      images_fail c script_stands lines_stand (of_run HasLawfulEntries places) (of_run HasCompletions completions) (of_run (HasText c) text)
      (fails c script journals (HasImages c) read not)

  pub all_stand : HasLawfulEntries script c.before (journal_spelled script c.before journals)
      → HasCompletions script c.before (journal_spelled script c.before journals)
      → IsTextOf script c.before (journal_spelled script c.before journals) c.report
      → c.after ≡ (course_of script c.before (journal_spelled script c.before journals)).state.images → IsVerdict c Yes
  all_stand places completions text images =
      yes c script_stands lines_stand (of_run HasLawfulEntries places) (of_run HasCompletions completions) (of_run (HasText c) text) (of_run (HasImages c) images)
