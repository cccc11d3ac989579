-- How a call ends: for each code its cause, what was written, and what became of the images and of the journal.
--
-- The order of the causes: the words, reading the source, the script's rules, the images one after another, the leaves of
-- the tops, then the rounds.
use Rattle.std.specs.Prelude.{◌≡◌, ◌⊎◌, ℕ, List, [], Bool, true, false}
use Rattle.zio_types.specs.declared.journal.Journal.{Journal}
use Rattle.zio_outside.specs.Outside.{Appends, AppendsFront, Keeps, Rose}
use Rattle.zio_script.specs.declared.script.Script.{Script}
use Rattle.zio_script.specs.declared.script.ScriptFault.{ScriptFault}
use Rattle.zio_script.specs.Grammar.{IsFaultOf, IsScriptOf}
use Rattle.zio_cksum.specs.Images.{Images}
use Rattle.zio_report.specs.declared.report.RunFault.{RunFault}
use Rattle.zio_report.specs.declared.report.RunFault.TheVariants.{Device, Sink, Memory}
use Rattle.zio_report.specs.declared.report.Show.{Show}
use Rattle.zio_report.specs.Meanings.{run_size_of, tops_of}
use Rattle.zio_report.specs.Reports.{end_code}
use Rattle.zio_course.specs.SoFar.{IsCut, IsCutText, IsFullText}
use Rattle.zio_command.specs.declared.mode.RunMode.{RunMode}
use Rattle.zio_command.specs.declared.outcome.RunOutcome.{RunOutcome}
use Rattle.zio_command.specs.declared.outcome.RunOutcome.TheVariants.{Ended, Unfit, Cut}
use Rattle.zio_command.specs.Causes.{AreFit, AreUntouched, IsLeafCause}
use Rattle.zio_command.specs.Headline.{HeadlineOf, TellEach}
use Rattle.zio_command.specs.Outcomes.{IsEnding, cut_code, images_line, script_line}
use Rattle.zio_command.specs.Scrubbed.{IsStoppedScrub}
use Rattle.zio_command.specs.Seen.{ShelfSeen, SinkSeen, stopping_plainly}

-- ---- a run to its end

-- The script was run to its end or to a panic, and scrubbed behind it where that is asked for, and no count of faults rose:
-- the headline, for all images that the shelf tells.
pub record HasRun (mode : RunMode) (script : Script) (names : List (List ℕ)) (code : ℕ) (old_sink new_sink : SinkSeen) (old new : ShelfSeen) (journal : Journal) : Type 0 where
  pub fit : AreFit script names old new
  pub sink_steady : new_sink.faults ≡ old_sink.faults
  pub disks_steady : new.disk_faults ≡ old.disk_faults
  pub headline : (images : Images) → old.tells → TellEach old.image names images →
      HeadlineOf mode script names images journal new.image old_sink.holds new_sink.holds code

-- ---- a run that was cut short

-- The rounds so far were run whole, and the journal is that of these and no others. The shelf tells the images after them,
-- and the sink what the fault leaves of the text that was due.
pub record CutHeadline (show : Show) (script : Script) (names : List (List ℕ)) (fault : RunFault) (before : Images) (journal : Journal) (image : List ℕ → List ℕ → Type 0) (old new : List ℕ → Type 0) : Type 0 where
  pub after : Images
  pub so_far : List ℕ
  pub full : List ℕ
  -- the engine was stopped in a round
  pub stopped : Bool
  pub cut : IsCut show (run_size_of script before) script before (tops_of script before) (stopping_plainly stopped) fault journal after so_far
  pub due : IsFullText fault show (run_size_of script before) script before journal so_far full
  pub stored : TellEach image names after
  pub written : IsCutText fault old new [] full

-- where the pool is scrubbed, it may be the scrub that was cut short
abbrev pub CutIf : Bool → Show → Script → List (List ℕ) → RunFault → Images → Journal → (List ℕ → List ℕ → Type 0) → (List ℕ → Type 0) → (List ℕ → Type 0) → Type 0
CutIf false show script names fault before journal image old new = CutHeadline show script names fault before journal image old new
CutIf true show script names fault before journal image old new =
    CutHeadline show script names fault before journal image old new ⊎ IsStoppedScrub (TellEach image names) show script fault old new journal before

abbrev pub CutHeadlineOf : RunMode → Script → List (List ℕ) → RunFault → Images → Journal → (List ℕ → List ℕ → Type 0) → (List ℕ → Type 0) → (List ℕ → Type 0) → Type 0
CutHeadlineOf mode script names fault before journal image old new = CutIf mode.scrubs mode.show script names fault before journal image old new

-- the count whose rise is the cause; want of memory has none
abbrev pub IsCauseOf : RunFault → SinkSeen → SinkSeen → ShelfSeen → ShelfSeen → Type 0
IsCauseOf Device old_sink new_sink old new = Rose old.disk_faults new.disk_faults
IsCauseOf Sink old_sink new_sink old new = Rose old_sink.faults new_sink.faults
IsCauseOf Memory old_sink new_sink old new = Unit {0}

-- the rounds were begun, and the run or the scrub behind it was cut short
pub record WasCut (mode : RunMode) (script : Script) (names : List (List ℕ)) (fault : RunFault) (old_sink new_sink : SinkSeen) (old new : ShelfSeen) (journal : Journal) : Type 0 where
  pub fit : AreFit script names old new
  pub cause : IsCauseOf fault old_sink new_sink old new
  pub headline : (images : Images) → old.tells → TellEach old.image names images →
      CutHeadlineOf mode script names fault images journal new.image old_sink.holds new_sink.holds

-- memory was wanting before anything was written or run
pub record WasUnbegun (old_sink new_sink : SinkSeen) (old new : ShelfSeen) (old_journal journal : Journal) : Type 0 where
  pub nothing : Keeps old_sink.holds new_sink.holds
  pub untouched : AreUntouched old new
  pub unentered : journal ≡ old_journal

-- ---- a run of a script

-- how a run of a script over the images under these names came out
abbrev pub CameOut : RunMode → Script → List (List ℕ) → SinkSeen → SinkSeen → ShelfSeen → ShelfSeen → Journal → Journal → RunOutcome → Type 0
CameOut mode script names old_sink new_sink old new old_journal journal (Ended ending) =
    HasRun mode script names (end_code ending) old_sink new_sink old new journal
CameOut mode script names old_sink new_sink old new old_journal journal (Unfit leaf) =
    IsLeafCause script names old new leaf × AreUntouched old new × (journal ≡ old_journal)
CameOut mode script names old_sink new_sink old new old_journal journal (Cut fault) =
    WasCut mode script names fault old_sink new_sink old new journal
    ⊎ ((fault ≡ Memory) × WasUnbegun old_sink new_sink old new old_journal journal)

-- code 3: a leaf has no image of a lawful size
pub record WasUnfit (script : Script) (names : List (List ℕ)) (old_sink new_sink : SinkSeen) (old new : ShelfSeen) (old_journal journal : Journal) : Type 0 where
  pub leaf : ℕ
  pub cause : IsLeafCause script names old new leaf
  pub written : Appends old_sink.holds new_sink.holds (images_line leaf)
  pub steady : new_sink.faults ≡ old_sink.faults
  pub untouched : AreUntouched old new
  pub unentered : journal ≡ old_journal

-- the sink failed on this line, and holds a front of it
pub record LineWasCut (line : List ℕ) (old_sink new_sink : SinkSeen) (old new : ShelfSeen) (old_journal journal : Journal) : Type 0 where
  pub written : AppendsFront old_sink.holds new_sink.holds line
  pub rose : Rose old_sink.faults new_sink.faults
  pub untouched : AreUntouched old new
  pub unentered : journal ≡ old_journal

-- How the call ends for a script, over the images under these names. It ran to its end, with code 0, 4 or 9; it was cut
-- short by the sink, by a disk or for want of memory, with code 6, 7 or 8; a leaf has no image, with code 3; the sink failed
-- on the line of that, with code 6; or memory was wanting first.
pub data ScriptEnds (mode : RunMode) (script : Script) (names : List (List ℕ)) (old_sink new_sink : SinkSeen) (old new : ShelfSeen) (old_journal journal : Journal) (code : ℕ) : Type 0 where
  Ran : IsEnding code → HasRun mode script names code old_sink new_sink old new journal
      → ScriptEnds mode script names old_sink new_sink old new old_journal journal code
  CutShort : (fault : RunFault) → code ≡ cut_code fault → WasCut mode script names fault old_sink new_sink old new journal
      → ScriptEnds mode script names old_sink new_sink old new old_journal journal code
  NoImage : code ≡ 3 → WasUnfit script names old_sink new_sink old new old_journal journal
      → ScriptEnds mode script names old_sink new_sink old new old_journal journal code
  NoImageCut : (leaf : ℕ) → code ≡ 6 → IsLeafCause script names old new leaf
      → LineWasCut (images_line leaf) old_sink new_sink old new old_journal journal
      → ScriptEnds mode script names old_sink new_sink old new old_journal journal code
  Wanting : code ≡ 8 → WasUnbegun old_sink new_sink old new old_journal journal
      → ScriptEnds mode script names old_sink new_sink old new old_journal journal code

-- ---- a run of a text

-- each text that is told is this script
abbrev pub IsScriptTold : (List ℕ → Type 0) → Script → Type 0
IsScriptTold told script = (text : List ℕ) → told text → IsScriptOf text script

-- each text that is told has this first faulty line, with this least why
abbrev pub IsFaultTold : (List ℕ → Type 0) → ScriptFault → Type 0
IsFaultTold told fault = (text : List ℕ) → told text → IsFaultOf text fault

-- code 2: the text is no script
pub record WasRefused (told : List ℕ → Type 0) (old_sink new_sink : SinkSeen) (old new : ShelfSeen) (old_journal journal : Journal) : Type 0 where
  pub fault : ScriptFault
  pub faulty : IsFaultTold told fault
  pub written : Appends old_sink.holds new_sink.holds (script_line fault)
  pub steady : new_sink.faults ≡ old_sink.faults
  pub untouched : AreUntouched old new
  pub unentered : journal ≡ old_journal

-- How the call ends for a text, of which this is told: as a script's does; the text is no script, with code 2; the sink failed
-- on the line of that, with code 6; or memory was wanting first.
pub data RunEnds (told : List ℕ → Type 0) (mode : RunMode) (names : List (List ℕ)) (old_sink new_sink : SinkSeen) (old new : ShelfSeen) (old_journal journal : Journal) (code : ℕ) : Type 0 where
  AsScript : (script : Script) → IsScriptTold told script → ScriptEnds mode script names old_sink new_sink old new old_journal journal code
      → RunEnds told mode names old_sink new_sink old new old_journal journal code
  Refused : code ≡ 2 → WasRefused told old_sink new_sink old new old_journal journal
      → RunEnds told mode names old_sink new_sink old new old_journal journal code
  RefusedCut : (fault : ScriptFault) → code ≡ 6 → IsFaultTold told fault
      → LineWasCut (script_line fault) old_sink new_sink old new old_journal journal
      → RunEnds told mode names old_sink new_sink old new old_journal journal code
  Wanting : code ≡ 8 → WasUnbegun old_sink new_sink old new old_journal journal
      → RunEnds told mode names old_sink new_sink old new old_journal journal code
