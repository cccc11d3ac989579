-- How a run over disks that are fetched came out.
use Rattle.std.specs.Prelude.{◌≡◌, ◌⊎◌, ◌≤◌, ℕ, List, [], length, map, Bool, true, false}
use Rattle.std.specs.List.{AllByRecursion}
use Rattle.zio_types.specs.declared.journal.Journal.{Journal}
use Rattle.zio_types.specs.declared.place.Top.{Top}
use Rattle.zio_outside.specs.Outside.{Appends, Keeps, Rose}
use Rattle.zio_script.specs.declared.limits.TheConstants.{TOPS_MAX}
use Rattle.zio_script.specs.declared.script.Script.{Script}
use Rattle.zio_cksum.specs.Images.{Images, Setting}
use Rattle.zio_gang.specs.declared.ending.Ending.{Ending}
use Rattle.zio_trace.specs.Separate.{LeavesOnce}
use Rattle.zio_trace.specs.SoundRounds.{LeavesDiffer}
use Rattle.zio_report.specs.declared.report.RunFault.{RunFault}
use Rattle.zio_report.specs.declared.report.RunFault.TheVariants.{Device, Sink, Memory}
use Rattle.zio_report.specs.declared.report.Show.{Show}
use Rattle.zio_report.specs.Meanings.{IsWholeRun, run_size_of, tops_of}
use Rattle.zio_course.specs.SoFar.{IsCut, IsCutText, IsFullText}
use Rattle.zio_disks.specs.Disks.{AnyRose, Tell}
use Rattle.zio_disks.specs.Trees.{BearsTops}
use Rattle.zio_blocks.specs.Blocks.{HavePointers}
use Rattle.zio_command.specs.declared.image.TheConstants.{IMAGE_LEN_MAX}
use Rattle.zio_command.specs.declared.outcome.RunOutcome.{RunOutcome}
use Rattle.zio_command.specs.declared.outcome.RunOutcome.TheVariants.{Ended, Unfit, Cut}
use Rattle.zio_command.specs.Scrubbed.{IsScrubbedRun, IsStoppedScrub}
use Rattle.zio_command.specs.Seen.{SinkSeen, stopping_plainly}
use Rattle.zio_command.specs.Tops.{AreTopLeaves, HaveImages, IsFirstMissing, leaves_of}

-- What any engine may ask of a setting and of disks of these sizes in bytes: the disks bear the tops, whose places stand in
-- pointers; tops, their leaves and their sectors are few, as scripts and images have them; and no leaf stands twice.
pub record IsPoolOver (s : Setting) (sizes : List ℕ) : Type 0 where
  pub bears : BearsTops s sizes
  pub pointers : HavePointers s.tops
  pub few : length s.tops ≤ TOPS_MAX
  pub leaves : AllByRecursion (λ (top : Top). AreTopLeaves top.leaves) s.tops
  pub short : AllByRecursion (λ (top : Top). top.sectors ≤ IMAGE_LEN_MAX) s.tops
  pub leaves_once : LeavesOnce s.tops
  pub leaves_differ : LeavesDiffer s.tops

-- The setting of a script's run over disks of these sizes: the tops that it has over images of these sizes, and its rows. An
-- engine can run over it.
pub record IsSettingOf (script : Script) (sizes : List ℕ) (s : Setting) : Type 0 where
  pub tops : (images : Images) → map length images ≡ sizes → s.tops ≡ tops_of script images
  pub rows : s.rows ≡ script.faults
  pub pool : IsPoolOver s sizes
  pub leaves : HaveImages (length sizes) (leaves_of script.tops)

-- what a script means over the images that the disks told: they tell the images after it, and the sink the text behind
pub record IsWholeOver {D : Type 0} (image : D → List ℕ → Type 0) (show : Show) (script : Script) (ending : Ending) (old new : List D) (old_sink new_sink : SinkSeen) (journal : Journal) (before : Images) : Type 0 where
  pub after : Images
  pub printed : List ℕ
  pub whole : IsWholeRun show (run_size_of script before) script before journal after printed ending
  pub stored : Tell image new after
  pub written : Appends old_sink.holds new_sink.holds printed

-- the same of the rounds that were run whole, where the run was cut short
pub record IsCutOver {D : Type 0} (image : D → List ℕ → Type 0) (show : Show) (script : Script) (fault : RunFault) (old new : List D) (old_sink new_sink : SinkSeen) (journal : Journal) (before : Images) : Type 0 where
  pub after : Images
  pub so_far : List ℕ
  pub full : List ℕ
  -- the engine was stopped in a round
  pub stopped : Bool
  pub cut : IsCut show (run_size_of script before) script before (tops_of script before) (stopping_plainly stopped) fault journal after so_far
  pub due : IsFullText fault show (run_size_of script before) script before journal so_far full
  pub stored : Tell image new after
  pub written : IsCutText fault old_sink.holds new_sink.holds [] full

-- the count whose rise is the cause
abbrev pub IsCauseOver : RunFault → List ℕ → List ℕ → SinkSeen → SinkSeen → Type 0
IsCauseOver Device old new old_sink new_sink = AnyRose old new
IsCauseOver Sink old new old_sink new_sink = Rose old_sink.faults new_sink.faults
IsCauseOver Memory old new old_sink new_sink = Unit {0}

-- the script was run to its end, and no count rose
pub record HasRunOver {D : Type 0} (faults : D → ℕ) (image : D → List ℕ → Type 0) (show : Show) (script : Script) (ending : Ending) (old new : List D) (old_sink new_sink : SinkSeen) (journal : Journal) : Type 0 where
  pub disks_steady : map faults new ≡ map faults old
  pub sink_steady : new_sink.faults ≡ old_sink.faults
  pub told : (before : Images) → Tell image old before → IsWholeOver image show script ending old new old_sink new_sink journal before

-- the rounds were begun, and the run was cut short
pub record WasCutOver {D : Type 0} (faults : D → ℕ) (image : D → List ℕ → Type 0) (show : Show) (script : Script) (fault : RunFault) (old new : List D) (old_sink new_sink : SinkSeen) (journal : Journal) : Type 0 where
  pub cause : IsCauseOver fault (map faults old) (map faults new) old_sink new_sink
  pub told : (before : Images) → Tell image old before → IsCutOver image show script fault old new old_sink new_sink journal before

-- memory was wanting before anything was run or written
abbrev pub IsUnbegun : {D : Type 0} → RunFault → List D → List D → SinkSeen → SinkSeen → Journal → Journal → Type 0
IsUnbegun fault old new old_sink new_sink old_journal journal =
    (fault ≡ Memory) × (new ≡ old) × Keeps old_sink.holds new_sink.holds × (journal ≡ old_journal)

-- how the run came out; where it wasn't begun, nothing has changed
abbrev pub CameOutOver : {D : Type 0} → (D → ℕ) → (D → List ℕ → Type 0) → Show → Script → List D → List D → SinkSeen → SinkSeen → Journal → Journal → RunOutcome → Type 0
CameOutOver faults image show script old new old_sink new_sink old_journal journal (Ended ending) =
    HaveImages (length old) (leaves_of script.tops) × HasRunOver faults image show script ending old new old_sink new_sink journal
CameOutOver faults image show script old new old_sink new_sink old_journal journal (Unfit leaf) =
    IsFirstMissing (length old) (leaves_of script.tops) leaf × (new ≡ old) × (journal ≡ old_journal)
CameOutOver faults image show script old new old_sink new_sink old_journal journal (Cut fault) =
    (HaveImages (length old) (leaves_of script.tops) × WasCutOver faults image show script fault old new old_sink new_sink journal)
    ⊎ IsUnbegun fault old new old_sink new_sink old_journal journal

-- ---- a run with a scrub behind it

-- the script was run to its end, its pool was scrubbed but after a panic, and no count rose
pub record HasScrubbedOver {D : Type 0} (faults : D → ℕ) (image : D → List ℕ → Type 0) (show : Show) (script : Script) (ending : Ending) (old new : List D) (old_sink new_sink : SinkSeen) (journal : Journal) : Type 0 where
  pub disks_steady : map faults new ≡ map faults old
  pub sink_steady : new_sink.faults ≡ old_sink.faults
  pub told : (before : Images) → Tell image old before
      → IsScrubbedRun (Tell image new) show script ending old_sink.holds new_sink.holds journal before

-- the script was run to its end, and the scrub was cut short
pub record WasStoppedOver {D : Type 0} (faults : D → ℕ) (image : D → List ℕ → Type 0) (show : Show) (script : Script) (fault : RunFault) (old new : List D) (old_sink new_sink : SinkSeen) (journal : Journal) : Type 0 where
  pub cause : IsCauseOver fault (map faults old) (map faults new) old_sink new_sink
  pub told : (before : Images) → Tell image old before
      → IsStoppedScrub (Tell image new) show script fault old_sink.holds new_sink.holds journal before

-- how a run with a scrub behind it came out
abbrev pub ScrubCameOutOver : {D : Type 0} → (D → ℕ) → (D → List ℕ → Type 0) → Show → Script → List D → List D → SinkSeen → SinkSeen → Journal → Journal → RunOutcome → Type 0
ScrubCameOutOver faults image show script old new old_sink new_sink old_journal journal (Ended ending) =
    HaveImages (length old) (leaves_of script.tops) × HasScrubbedOver faults image show script ending old new old_sink new_sink journal
ScrubCameOutOver faults image show script old new old_sink new_sink old_journal journal (Unfit leaf) =
    IsFirstMissing (length old) (leaves_of script.tops) leaf × (new ≡ old) × (journal ≡ old_journal)
ScrubCameOutOver faults image show script old new old_sink new_sink old_journal journal (Cut fault) =
    (HaveImages (length old) (leaves_of script.tops)
    × (WasCutOver faults image show script fault old new old_sink new_sink journal
    ⊎ WasStoppedOver faults image show script fault old new old_sink new_sink journal))
    ⊎ IsUnbegun fault old new old_sink new_sink old_journal journal

abbrev pub CameOutIf : Bool → {D : Type 0} → (D → ℕ) → (D → List ℕ → Type 0) → Show → Script → List D → List D → SinkSeen → SinkSeen → Journal → Journal → RunOutcome → Type 0
CameOutIf false faults image show script old new old_sink new_sink old_journal journal outcome =
    CameOutOver faults image show script old new old_sink new_sink old_journal journal outcome
CameOutIf true faults image show script old new old_sink new_sink old_journal journal outcome =
    ScrubCameOutOver faults image show script old new old_sink new_sink old_journal journal outcome
