-- A scrub over the disks that a run left.
use Rattle.std.specs.Prelude.{◌≡◌, ◌≢◌, ℕ, List, length, map}
use Rattle.zio_outside.specs.Outside.{Appends, AppendsFront, Keeps}
use Rattle.zio_script.specs.declared.script.Script.{Script}
use Rattle.zio_cksum.specs.Frames.{SameOutside}
use Rattle.zio_cksum.specs.Images.{Images, Setting}
use Rattle.zio_gang.specs.declared.ending.Ending.{Ending}
use Rattle.zio_gang.specs.declared.ending.Ending.TheVariants.{Complete, Panic, Left}
use Rattle.zio_gang.specs.declared.tree.Tree.{Tree}
use Rattle.zio_disks.specs.Disks.{Tell}
use Rattle.zio_report.specs.declared.report.RunFault.{RunFault}
use Rattle.zio_report.specs.declared.report.RunFault.TheVariants.{Device, Sink, Memory}
use Rattle.zio_suspend.specs.declared.run.PoolEnd.{PoolEnd}
use Rattle.zio_scrub.specs.Ends.{AreMended, NoRowHolds}
use Rattle.zio_scrub.specs.Lines.{scrub_line}
use Rattle.zio_scrub.specs.Pieces.{trees_of}
use Rattle.zio_scrub.specs.Scrubs.{scrub_blocks, spots_in}
use Rattle.zio_command.specs.declared.outcome.RunOutcome.{RunOutcome}
use Rattle.zio_command.specs.declared.outcome.RunOutcome.TheVariants.{Ended, Unfit, Cut}
use Rattle.zio_command.specs.Grounds.{IsCauseOver}
use Rattle.zio_command.specs.Scrubbed.{setting_at}
use Rattle.zio_command.specs.Seen.{SinkSeen}

-- images of the disks' sizes: a script has the same tops over all of them
abbrev pub HaveSizesOf : {D : Type 0} → (D → ℕ) → List D → Images → Type 0
HaveSizesOf bytes disks before = map length before ≡ map bytes disks

-- The blocks were scrubbed over the script's tops at a resume point: the disks tell the images of the definition, the sink
-- has the line, and no count rose.
pub record WasScrubbed {D : Type 0} (bytes faults : D → ℕ) (image : D → List ℕ → Type 0) (script : Script) (point : ℕ) (trees : List Tree) (old new : List D) (old_sink new_sink : SinkSeen) : Type 0 where
  pub disks_steady : map faults new ≡ map faults old
  pub sink_steady : new_sink.faults ≡ old_sink.faults
  pub stored : (before images : Images) → HaveSizesOf bytes old before → Tell image old images
      → Tell image new (scrub_blocks (setting_at script before point) trees images).images
  pub written : (before images : Images) → HaveSizesOf bytes old before → Tell image old images
      → Appends old_sink.holds new_sink.holds (scrub_line trees (scrub_blocks (setting_at script before point) trees images))
  pub good : (before images : Images) → HaveSizesOf bytes old before → Tell image old images → NoRowHolds (setting_at script before point)
      → AreMended (setting_at script before point) trees images (scrub_blocks (setting_at script before point) trees images).images

-- What a scrub leaves that was cut short by this fault: of these images it changed nothing outside the blocks' copies, and
-- wrote nothing; where the sink failed, all was scrubbed, and a front of the line was written.
abbrev pub StoppedWith : {D : Type 0} → RunFault → (D → List ℕ → Type 0) → Setting → List Tree → List D → SinkSeen → SinkSeen → Images → Type 0
StoppedWith Device image s trees new old_sink new_sink images =
    ((after : Images) × Tell image new after × SameOutside (spots_in s trees) images after) × Keeps old_sink.holds new_sink.holds
StoppedWith Sink image s trees new old_sink new_sink images =
    Tell image new (scrub_blocks s trees images).images × AppendsFront old_sink.holds new_sink.holds (scrub_line trees (scrub_blocks s trees images))
StoppedWith Memory image s trees new old_sink new_sink images =
    ((after : Images) × Tell image new after × SameOutside (spots_in s trees) images after) × Keeps old_sink.holds new_sink.holds

-- the scrub was cut short by this fault
pub record WasStopped {D : Type 0} (bytes faults : D → ℕ) (image : D → List ℕ → Type 0) (script : Script) (point : ℕ) (trees : List Tree) (fault : RunFault) (old new : List D) (old_sink new_sink : SinkSeen) : Type 0 where
  pub cause : IsCauseOver fault (map faults old) (map faults new) old_sink new_sink
  pub told : (before images : Images) → HaveSizesOf bytes old before → Tell image old images
      → StoppedWith fault image (setting_at script before point) trees new old_sink new_sink images

-- nothing was done, as after a panic
pub record WasLeftAlone {D : Type 0} (old new : List D) (old_sink new_sink : SinkSeen) : Type 0 where
  pub disks : new ≡ old
  pub nothing : Keeps old_sink.holds new_sink.holds
  pub sink_steady : new_sink.faults ≡ old_sink.faults

-- what was done behind a run that ended so
abbrev pub EndedBehind : {D : Type 0} → (D → ℕ) → (D → ℕ) → (D → List ℕ → Type 0) → Script → Ending → ℕ → List Tree → List D → List D → SinkSeen → SinkSeen → Type 0
EndedBehind bytes faults image script Complete point trees old new old_sink new_sink = WasScrubbed bytes faults image script point trees old new old_sink new_sink
EndedBehind bytes faults image script Panic point trees old new old_sink new_sink = WasLeftAlone old new old_sink new_sink
EndedBehind bytes faults image script Left point trees old new old_sink new_sink = WasScrubbed bytes faults image script point trees old new old_sink new_sink

-- how it came out
abbrev pub CameOutBehind : {D : Type 0} → (D → ℕ) → (D → ℕ) → (D → List ℕ → Type 0) → Script → PoolEnd → List D → List D → SinkSeen → SinkSeen → RunOutcome → Type 0
CameOutBehind bytes faults image script end old new old_sink new_sink (Ended ending) =
    (ending ≡ end.ending) × EndedBehind bytes faults image script end.ending end.point (trees_of end.bound) old new old_sink new_sink
CameOutBehind bytes faults image script end old new old_sink new_sink (Unfit leaf) = ⊥
CameOutBehind bytes faults image script end old new old_sink new_sink (Cut fault) =
    (end.ending ≢ Panic) × WasStopped bytes faults image script end.point (trees_of end.bound) fault old new old_sink new_sink
