-- Tops over images of lawful sizes fit pointers, and what a command comes to whose script heals.
use Rattle.std.proofs.Common.{◌≡◌, ◌≤◌, ◌∙◌, ℕ, zero, suc, List, [], ◌∷◌, length, map, Bool, true, false, ap, subst, arith}
use Rattle.std.proofs.Math.Nat.{div-mul-le_self}
use Rattle.std.specs.List.{AllByRecursion}
use Rattle.zio_types.specs.declared.journal.Journal.{Journal}
use Rattle.zio_script.specs.declared.script.Script.{Script}
use Rattle.zio_script.specs.declared.script.TopLine.{TopLine}
use Rattle.zio_script.specs.Grammar.{IsScriptOf}
use Rattle.zio_cksum.specs.Images.{Images, image_of}
use Rattle.zio_gang.specs.declared.ending.Ending.{Ending}
use Rattle.zio_gang.specs.Runs.{least_sectors, top_of}
use Rattle.zio_report.specs.declared.report.Show.{Show}
use Rattle.zio_report.specs.Meanings.{IsWholeRun, run_size_of}
use Rattle.zio_report.specs.Reports.{end_code}
use Rattle.zio_heal.specs.Given.{AcceptsWhatWasGiven}
use Rattle.zio_heal.specs.Healed.{IsHealed}
use Rattle.zio_heal.specs.Pools.{NoSmallRefused}
use Rattle.zio_heal.specs.StoredPlainly.{FitPointers, IsStoredPlainly}
use Rattle.zio_suspend.proofs.HealLemmas.{HealsBy, whole_is_plain}
use Rattle.zio_command.specs.declared.image.TheConstants.{IMAGE_LEN_MAX}
use Rattle.zio_command.specs.declared.mode.RunMode.{RunMode}
use Rattle.zio_command.specs.declared.words.Command.{Command}
use Rattle.zio_command.specs.Codes.{HasRun}
use Rattle.zio_command.specs.Commands.{CommandEnds, image_names, mode_of, runs, told_by}
use Rattle.zio_command.specs.Headline.{HeadlineIf, TellEach}
use Rattle.zio_command.specs.Outcomes.{HasLawfulSize, IsEnding}
use Rattle.zio_command.specs.Seen.{ShelfSeen, SinkSeen, SourceSeen}
use Rattle.zio_command.proofs.CommandLemmas.{command_ended}
use Rattle.zio_command.proofs.ScriptLemmas.{one_script}

-- ---- tops

-- each of these images has a lawful size
abbrev pub AreLawfulSizes : Images → Type 0
AreLawfulSizes images = AllByRecursion HasLawfulSize (map (length {A = ℕ}) images)

image_short : (images : Images) (leaf : ℕ) → AreLawfulSizes images → length (image_of images leaf) ≤ IMAGE_LEN_MAX
image_short [] leaf all = omega arith
image_short (bytes ∷ images) zero all = all.0.high
image_short (bytes ∷ images) (suc leaf) all = image_short images leaf all.1

least_short : (images : Images) (leaves : List ℕ) → AreLawfulSizes images → least_sectors images leaves ≤ IMAGE_LEN_MAX
least_short images [] all = omega arith
least_short images (leaf ∷ []) all = let size = image_short images leaf all in omega arith
least_short images (leaf ∷ other ∷ leaves) all =
    let others = least_short images (other ∷ leaves) all in
    omega arith

-- a top has no more sectors than its smallest leaf
pub tops_fit : (images : Images) (lines : List TopLine) → AreLawfulSizes images → FitPointers (map (top_of images) lines)
tops_fit images [] all = tt
tops_fit images (line ∷ lines) all =
    let least = least_short images line.leaves all in
    let whole = div-mul-le_self (least_sectors images line.leaves) line.unit in
    ((omega arith), tops_fit images lines all)

-- ---- runs

-- the run that a headline speaks of
whole_of : (scrubs : Bool) (show : Show) (script : Script) (names : List (List ℕ)) (before : Images) (journal : Journal)
    (image : List ℕ → List ℕ → Type 0) (old new : List ℕ → Type 0) (code : ℕ)
    → HeadlineIf scrubs show script names before journal image old new code
    → (after : Images) × (printed : List ℕ) × (end : Ending)
    × IsWholeRun show (run_size_of script before) script before journal after printed end × (code ≡ end_code end)
whole_of false show script names before journal image old new code line =
    (line.after, line.printed, line.meaning.end, line.meaning.run, line.meaning.code_is)
whole_of true show script names before journal image old new code line =
    (line.run.ran, line.run.report, line.end, line.run.whole, line.code_is)

run_healed : (mode : RunMode) (script : Script) (names : List (List ℕ)) (code : ℕ) (old_sink new_sink : SinkSeen)
    (old new : ShelfSeen) (journal : Journal) → HasRun mode script names code old_sink new_sink old new journal
    → (images : Images) → old.tells → TellEach old.image names images → HealsBy script images journal → IsHealed script
    → NoSmallRefused journal.places → AcceptsWhatWasGiven script images journal.places
    → IsStoredPlainly script images journal.places × (code ≡ 0)
run_healed mode script names code old_sink new_sink old new journal ran images tells each law healed small accepts =
    let line = whole_of mode.scrubs mode.show script names images journal new.image old_sink.holds new_sink.holds code
    (ran.headline images tells each) in
    let fit = tops_fit images script.tops (ran.fit.measured.lawful images tells each) in
    let plain =
    whole_is_plain mode.show (run_size_of script images) script images journal line.0 line.1 line.2 line.3 law healed fit
    small accepts in
    (plain.0, line.4 ∙ ap end_code plain.1)

-- the call of a command that runs a script which heals
pub command_healed : (command : Command) (old_source new_source : SourceSeen) (old_sink new_sink : SinkSeen)
    (old new : ShelfSeen) (old_journal journal : Journal) (code : ℕ)
    → CommandEnds command old_source new_source old_sink new_sink old new old_journal journal code
    → runs command ≡ true → IsEnding code → (text : List ℕ) (script : Script) (images : Images)
    → told_by old_source.left command text → IsScriptOf text script → old.tells
    → TellEach old.image (image_names command) images → HealsBy script images journal → IsHealed script
    → NoSmallRefused journal.places → AcceptsWhatWasGiven script images journal.places
    → IsStoredPlainly script images journal.places × (code ≡ 0)
command_healed command old_source new_source old_sink new_sink old new old_journal journal code ends r e text script
    images told accepted tells each law healed small accepts =
    let ran = command_ended command old_source new_source old_sink new_sink old new old_journal journal code ends r e in
    let names = image_names command in
    let mode = mode_of command in
    run_healed mode script names code old_sink new_sink old new journal
    (subst (λ (s : Script). HasRun mode s names code old_sink new_sink old new journal)
    (one_script text ran.0 script (ran.1 text told) accepted) ran.2)
    images tells each law healed small accepts
