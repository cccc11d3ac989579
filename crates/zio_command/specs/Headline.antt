-- What a run that was not stopped comes to: its report and its last images are the plain meaning of the script under the
-- lawful places of its journal, and its requests complete as the meaning says. Where the pool is scrubbed behind it, the
-- scrub's line stands behind the report, and the images are those that the scrub leaves.
use Rattle.std.specs.Prelude.{◌≡◌, ℕ, List, [], ◌∷◌, Bool, true, false}
use Rattle.zio_types.specs.declared.journal.Journal.{Journal}
use Rattle.zio_outside.specs.Outside.{Appends}
use Rattle.zio_script.specs.declared.script.Script.{Script}
use Rattle.zio_cksum.specs.Images.{Images}
use Rattle.zio_report.specs.declared.report.Show.{Show}
use Rattle.zio_gang.specs.declared.ending.Ending.{Ending}
use Rattle.zio_report.specs.Meanings.{IsMeaning}
use Rattle.zio_report.specs.Reports.{end_code}
use Rattle.zio_command.specs.declared.mode.RunMode.{RunMode}
use Rattle.zio_command.specs.Scrubbed.{IsScrubbedRun}

-- each of these images is told under its name
abbrev pub TellEach : (List ℕ → List ℕ → Type 0) → List (List ℕ) → Images → Type 0
TellEach image [] [] = Unit {0}
TellEach image [] (bytes ∷ images) = ⊥
TellEach image (name ∷ names) [] = ⊥
TellEach image (name ∷ names) (bytes ∷ images) = image name bytes × TellEach image names images

-- For the images under these names before the run, there are images after it and a printed text such that they are what
-- the script means; the shelf tells these images, and the sink what it held with the text after it.
pub record Headline (show : Show) (script : Script) (names : List (List ℕ)) (before : Images) (journal : Journal) (image : List ℕ → List ℕ → Type 0) (old new : List ℕ → Type 0) (code : ℕ) : Type 0 where
  pub after : Images
  pub printed : List ℕ
  pub meaning : IsMeaning show script before journal after printed code
  pub stored : TellEach image names after
  pub written : Appends old new printed

-- The same where the pool is scrubbed: what the run and the scrub behind it come to, and the code of how the run ended.
pub record ScrubHeadline (show : Show) (script : Script) (names : List (List ℕ)) (before : Images) (journal : Journal) (image : List ℕ → List ℕ → Type 0) (old new : List ℕ → Type 0) (code : ℕ) : Type 0 where
  pub end : Ending
  pub run : IsScrubbedRun (TellEach image names) show script end old new journal before
  pub code_is : code ≡ end_code end

abbrev pub HeadlineIf : Bool → Show → Script → List (List ℕ) → Images → Journal → (List ℕ → List ℕ → Type 0) → (List ℕ → Type 0) → (List ℕ → Type 0) → ℕ → Type 0
HeadlineIf false show script names before journal image old new code = Headline show script names before journal image old new code
HeadlineIf true show script names before journal image old new code = ScrubHeadline show script names before journal image old new code

-- the one or the other
abbrev pub HeadlineOf : RunMode → Script → List (List ℕ) → Images → Journal → (List ℕ → List ℕ → Type 0) → (List ℕ → Type 0) → (List ℕ → Type 0) → ℕ → Type 0
HeadlineOf mode script names before journal image old new code = HeadlineIf mode.scrubs mode.show script names before journal image old new code
