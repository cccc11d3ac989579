-- The write of a block's copies by operations on leaves: how it stands for a part of a node's work.
use Rattle.std.specs.Prelude.{◌≡◌, ℕ, ◌+◌, ◌-◌, ◌*◌, ◌^◌, ◌<◌, ◌≤◌, List, [], ◌∷◌, length, slice_get, Bool, true, false, Option, Some, None}
use Rattle.std.specs.List.{AllByRecursion}
use Rattle.zio_types.specs.declared.error.Errno.{Errno}
use Rattle.zio_types.specs.declared.place.Place.{Place}
use Rattle.zio_types.specs.declared.place.Top.{Top}
use Rattle.zio_types.specs.Places.{sector_size}
use Rattle.zio_cksum.specs.Images.{Setting}
use Rattle.zio_gang.specs.Attempts.{Terms}
use Rattle.zio_trace.specs.Leaves.{LeafOp}
use Rattle.zio_trace.specs.Tasks.{Leaf, WriteCopies}
use Rattle.zio_frames.specs.Frames.{Frame, fresh_frame, left_of}
use Rattle.zio_frames.specs.Moves.{AsksNext}
use Rattle.zio_frames.specs.Slots.{AllHeard, told_in}
use Rattle.zio_parts.specs.Copies.{AreMirrored, copies_at}
use Rattle.zio_parts.specs.CopyWrites.{AllowsWrite, ShowsWrite, left_of_write}
use Rattle.zio_parts.specs.LeafPlans.{writing_plan}
use Rattle.zio_parts.specs.declared.copy_write.WriteStep.{WriteStep}
use Rattle.zio_parts.specs.declared.copy_write.WriteStep.TheVariants.{Store, Wait as WaitStep, Retry as RetryStep, End as EndStep}
use Rattle.zio_stages.specs.LeafWorks.{IsLeafWork, IsQueuedAs}
use Rattle.zio_stages.specs.LeavesOut.{AsksLeaves, IsWriteIn}
use Rattle.zio_stages.specs.declared.leaf.LeafWork.{LeafWork}
use Rattle.zio_stages.specs.declared.write_io.IoStep.{IoStep}
use Rattle.zio_stages.specs.declared.write_io.IoStep.TheVariants.{Child, End, Retry, Wait}
use Rattle.zio_stages.specs.declared.write_io.WriteIo.{WriteIo}

-- ---- the places

-- the bytes of each have a number
abbrev pub AreShort : List Place → Type 0
AreShort places = AllByRecursion (λ (p : Place). p.sectors * sector_size < 2 ^ 32) places

-- at most three, each with leaves
pub record AreIoPlaces (tops : List Top) (places : List Place) : Type 0 where
  pub few : length places ≤ 3
  pub mirrored : AreMirrored tops places
  pub short : AreShort places

-- ---- its fields

-- of the writes of this pass, which are out
abbrev pub outs_in : List (Option (Option Errno)) → List Bool
outs_in [] = []
outs_in (None ∷ answers) = true ∷ outs_in answers
outs_in (Some error ∷ answers) = false ∷ outs_in answers

-- what they owe to each other and to the tops
pub record IsWriteOver (tops : List Top) (w : WriteIo) : Type 0 where
  pub places : AreIoPlaces tops w.write.places
  pub within : length w.write.answers ≤ length (copies_at tops w.write.places)
  pub counted : w.asked ≡ w.base + length w.write.answers
  pub first : w.write.retry ≡ false → w.base ≡ 0
  pub passes : w.base ≤ 12

-- the operation of this number is out
abbrev pub IsOutIn : WriteIo → ℕ → Type 0
IsOutIn w n = (w.base ≤ n) × (slice_get w.write.answers (n - w.base) ≡ Some None)

-- ---- its steps

abbrev pub io_of : WriteStep → IoStep
io_of (Store target) = Child
io_of WaitStep = Wait
io_of RetryStep = Retry
io_of (EndStep error) = End

-- the step is that of the write
pub record IsWriteStep (tops : List Top) (w : WriteIo) (io : IoStep) : Type 0 where
  pub step : WriteStep
  pub is : io ≡ io_of step
  pub allows : AllowsWrite tops w.write step
  pub shows : (s : Setting) (bytes : List ℕ) → s.tops ≡ tops → ShowsWrite s bytes w.write step

-- what a step says of what is out
abbrev pub ShowsOuts : IoStep → Frame → Type 0
ShowsOuts Child x = Unit {0}
ShowsOuts Wait x = 0 < length (told_in x.slots)
ShowsOuts Retry x = AllHeard x.slots
ShowsOuts End x = AllHeard x.slots

-- ---- as a node's part

-- The part writes these bytes at the places. What is left of its plan is what is left of the write, and of the writes of
-- this pass those are out that have no answer.
pub record IsWriteIo (t : Terms) (bytes : List ℕ) (w : WriteIo) (x : Frame) : Type 0 where
  pub op : x.op ≡ WriteCopies bytes w.write.places
  pub left : left_of t x ≡ writing_plan (left_of_write t.setting bytes w.write)
  pub leaves : AsksLeaves (IsWriteIn w.write.retry) w.base (outs_in w.write.answers) x
  pub counted : w.asked ≡ length x.slots

-- the child does what the part asks next
pub record AsksOfWrite (t : Terms) (bytes : List ℕ) (x : Frame) (child : LeafWork) (w : WriteIo) : Type 0 where
  pub act : LeafOp
  pub next : AsksNext t x (Leaf act)
  pub child_is : IsLeafWork t child (fresh_frame (Leaf act))
  pub queued : IsQueuedAs w.prio false child
  pub is_now : IsWriteIn w.write.retry (Leaf act)
