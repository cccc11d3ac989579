-- The read of a block's copies by operations on leaves: how it stands for a part of a node's work.
use Rattle.std.specs.Prelude.{◌≡◌, ℕ, suc, ◌+◌, ◌-◌, ◌<◌, ◌≤◌, List, [], ◌∷◌, length, slice_get, Bool, true, false, not, Option, Some, None, is_some}
use Rattle.zio_types.specs.declared.place.Top.{Top}
use Rattle.zio_types.specs.declared.request.Prio.{Prio}
use Rattle.zio_types.specs.declared.request.Prio.TheVariants.{AsyncWrite}
use Rattle.zio_cksum.specs.Images.{Setting}
use Rattle.zio_gang.specs.Attempts.{Terms}
use Rattle.zio_trace.specs.CopyPrograms.{Program}
use Rattle.zio_trace.specs.Leaves.{Answer, Fetch, LeafOp, Store}
use Rattle.zio_trace.specs.Programs.{Asks, Ends}
use Rattle.zio_trace.specs.Tasks.{Leaf, ReadCopies, Task, good_by}
use Rattle.zio_frames.specs.Frames.{Frame, fresh_frame, left_of}
use Rattle.zio_frames.specs.Moves.{AsksNext}
use Rattle.zio_parts.specs.CopyReads.{AllowsRead, ShowsRead, left_of_read, wanted_of}
use Rattle.zio_parts.specs.LeafPlans.{reading_plan}
use Rattle.zio_parts.specs.declared.copy_read.ReadStep.{ReadStep}
use Rattle.zio_parts.specs.declared.copy_read.ReadStep.TheVariants.{Fetch as FetchStep, Repair, Wait as WaitStep, Retry as RetryStep, End as EndStep}
use Rattle.zio_stages.specs.LeafWorks.{IsLeafWork, IsQueuedAs}
use Rattle.zio_stages.specs.LeavesOut.{AsksLeaves, IsLeafTask, IsWriteIn}
use Rattle.zio_stages.specs.WriteIos.{AreIoPlaces}
use Rattle.zio_stages.specs.declared.leaf.LeafWork.{LeafWork}
use Rattle.zio_stages.specs.declared.read_io.ReadIo.{ReadIo}
use Rattle.zio_stages.specs.declared.write_io.IoStep.{IoStep}
use Rattle.zio_stages.specs.declared.write_io.IoStep.TheVariants.{Child, End, Retry, Wait}

-- ---- what is out

-- of what it asked behind the reads that were heard: the read that is out, or of its repairs those that are
abbrev pub outs_when : Option (List ℕ) → Bool → List Bool → List Bool
outs_when None true mends = true ∷ []
outs_when None false mends = []
outs_when (Some bytes) is_out mends = mends

abbrev pub outs_of_read : ReadIo → List Bool
outs_of_read w = outs_when w.read.good w.read.is_out w.read.mends

-- which operations these are: with good bytes writes of the pass
abbrev pub IsAskedWhen : Option (List ℕ) → Bool → Task → Type 0
IsAskedWhen None retry = IsLeafTask
IsAskedWhen (Some bytes) retry = IsWriteIn retry

-- a copy is being read
abbrev pub reads_when : Option (List ℕ) → Bool → Bool
reads_when None is_out = is_out
reads_when (Some bytes) is_out = false

-- the operation of this number is out
abbrev pub IsReadOutIn : ReadIo → ℕ → Type 0
IsReadOutIn w n = (w.base ≤ n) × (slice_get (outs_of_read w) (n - w.base) ≡ Some true)

-- ---- what it came to

-- no copy was good
abbrev pub has_failed : ReadIo → Bool
has_failed w = not (is_some w.read.good)

-- ---- how much is left

-- on no way through the program more reads are asked
abbrev pub FetchesAtMost : {A : Type 0} → ℕ → Program A → Type 0
FetchesAtMost n (Ends a) = Unit {0}
FetchesAtMost n (Asks (Fetch retry len spot) more) = (m : ℕ) × (n ≡ suc m) × ((v : Answer) → FetchesAtMost m (more v))
FetchesAtMost n (Asks (Store retry bytes spot) more) = (v : Answer) → FetchesAtMost n (more v)

-- it asks a read first
abbrev pub FetchesFirst : {A : Type 0} → Program A → Type 0
FetchesFirst (Ends a) = ⊥
FetchesFirst (Asks (Fetch retry len spot) more) = Unit {0}
FetchesFirst (Asks (Store retry bytes spot) more) = ⊥

-- over these tops, without faults, where all bytes are good: how often it is asked doesn't depend on that
abbrev pub bare_left : List Top → ReadIo → Program Answer
bare_left tops w = left_of_read (record { tops = tops; rows = []; point = 0 }) (λ bytes. true) w.read

-- two passes over twelve copies
abbrev pub fetches_max : ℕ
fetches_max = 24

-- ---- its fields

-- what they owe to each other and to the tops
pub record IsReadOver (tops : List Top) (w : ReadIo) : Type 0 where
  pub places : AreIoPlaces tops w.read.places
  pub some : 0 < length w.read.places
  pub within : length w.read.mends ≤ length (wanted_of tops w.read)
  pub mends : length w.read.mends ≤ 12
  pub reading : w.is_reading ≡ reads_when w.read.good w.read.is_out
  pub counted : w.asked ≡ w.base + length (outs_of_read w)
  pub tried : w.base ≤ fetches_max
  pub budget : FetchesAtMost (fetches_max - w.base) (bare_left tops w)
  pub fetches : w.is_reading ≡ true → FetchesFirst (bare_left tops w)

-- ---- its steps

abbrev pub io_of_read : ReadStep → IoStep
io_of_read (FetchStep target) = Child
io_of_read (Repair target) = Child
io_of_read WaitStep = Wait
io_of_read RetryStep = Retry
io_of_read (EndStep end) = End

-- the step is that of the read
pub record IsReadStep (tops : List Top) (w : ReadIo) (io : IoStep) : Type 0 where
  pub step : ReadStep
  pub is : io ≡ io_of_read step
  pub allows : AllowsRead tops w.read step
  pub shows : (s : Setting) (good : List ℕ → Bool) → s.tops ≡ tops → ShowsRead s good w.read step

-- ---- as a node's part

-- The part reads the copies at the places. What is left of its plan is what is left of the read, and what is out of it is
-- out of the part.
pub record IsReadIo (t : Terms) (w : ReadIo) (x : Frame) : Type 0 where
  pub op : x.op ≡ ReadCopies w.read.repair w.check w.read.len w.read.places
  pub left : left_of t x ≡ reading_plan (left_of_read t.setting (good_by w.check) w.read)
  pub leaves : AsksLeaves (IsAskedWhen w.read.good w.read.retry) w.base (outs_of_read w) x
  pub counted : w.asked ≡ length x.slots

-- a read has its request's class, and a repair is an asynchronous write
-- Rule: queue classes.
abbrev pub IsQueuedFor : Prio → LeafOp → LeafWork → Type 0
IsQueuedFor prio (Fetch retry len spot) w = IsQueuedAs prio false w
IsQueuedFor prio (Store retry bytes spot) w = IsQueuedAs AsyncWrite true w

-- the child does what the part asks next
pub record AsksOfRead (t : Terms) (x : Frame) (child : LeafWork) (w : ReadIo) : Type 0 where
  pub act : LeafOp
  pub next : AsksNext t x (Leaf act)
  pub child_is : IsLeafWork t child (fresh_frame (Leaf act))
  pub queued : IsQueuedFor w.prio act child
  pub is_now : IsAskedWhen w.read.good w.read.retry (Leaf act)
