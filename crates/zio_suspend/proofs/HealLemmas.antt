-- A whole run of a script that heals, by the law on such scripts.
use Rattle.std.proofs.Common.{◌≡◌, ◌∙◌, ℕ, List}
use Rattle.zio_types.specs.declared.journal.Journal.{Journal}
use Rattle.zio_script.specs.declared.script.Script.{Script}
use Rattle.zio_cksum.specs.Images.{Images}
use Rattle.zio_gang.specs.declared.ending.Ending.{Ending}
use Rattle.zio_gang.specs.declared.ending.Ending.TheVariants.{Complete}
use Rattle.zio_gang.specs.Journals.{IsLawfulJournal}
use Rattle.zio_gang.specs.Runs.{rounds_of}
use Rattle.zio_gang.specs.Trees.{sizes_of}
use Rattle.zio_report.specs.declared.report.Show.{Show}
use Rattle.zio_report.specs.Meanings.{IsWholeRun, course_of, tops_of}
use Rattle.zio_report.specs.Reports.{RunSize}
use Rattle.zio_heal.specs.Given.{AcceptsWhatWasGiven}
use Rattle.zio_heal.specs.Healed.{IsHealed}
use Rattle.zio_heal.specs.Pools.{NoSmallRefused}
use Rattle.zio_heal.specs.StoredPlainly.{FitPointers, IsStoredPlainly, IsStoredPlainlyIfHealed}

-- the law, of this script over these images
abbrev pub HealsBy : Script → Images → Journal → Type 0
HealsBy script before journal =
    IsLawfulJournal (sizes_of (tops_of script before)) (rounds_of (course_of script before journal).events) journal.places
    → IsStoredPlainlyIfHealed script before journal.places

-- a whole run of a script that heals is stored plainly, and complete
pub whole_is_plain : (show : Show) (n : RunSize) (script : Script) (before : Images) (journal : Journal)
    (after : Images) (printed : List ℕ) (end : Ending) → IsWholeRun show n script before journal after printed end
    → HealsBy script before journal → IsHealed script → FitPointers (tops_of script before) → NoSmallRefused journal.places
    → AcceptsWhatWasGiven script before journal.places
    → IsStoredPlainly script before journal.places × (end ≡ Complete)
whole_is_plain show n script before journal after printed end whole law healed fit small accepts =
    let plain = law whole.places healed fit small accepts in
    (plain, whole.ending_is ∙ plain.complete)
