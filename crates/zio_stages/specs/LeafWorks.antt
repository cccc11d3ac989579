-- One operation on a leaf under way: which it is, how far, and what it comes to.
use Rattle.std.specs.Prelude.{◌≡◌, ℕ, ◌*◌, ◌^◌, ◌<◌, List, [], ◌∷◌, Bool, Option, Some, None, Ok, Err}
use Rattle.zio_types.specs.declared.error.Errno.{Errno}
use Rattle.zio_types.specs.declared.place.Place.{Place}
use Rattle.zio_types.specs.declared.request.Prio.{Prio}
use Rattle.zio_types.specs.Places.{sector_size}
use Rattle.zio_blkptr.specs.declared.pointer.SumKind.{SumKind}
use Rattle.zio_cksum.specs.Headers.{offset_of}
use Rattle.zio_cksum.specs.Sums.{sum_of}
use Rattle.zio_gang.specs.Attempts.{Terms}
use Rattle.zio_trace.specs.Leaves.{Answer, Fetch, LeafOp, Store}
use Rattle.zio_trace.specs.Tasks.{Got, Leaf}
use Rattle.zio_frames.specs.Frames.{Frame}
use Rattle.zio_frames.specs.Slots.{Heard}
use Rattle.zio_exchange.specs.LeafOps.{IsOpFor}
use Rattle.zio_stages.specs.declared.leaf.Act.{Act}
use Rattle.zio_stages.specs.declared.leaf.Act.TheVariants.{Read, Write}
use Rattle.zio_stages.specs.declared.leaf.LeafWork.{LeafWork}
use Rattle.zio_stages.specs.declared.leaf.Progress.{Progress}
use Rattle.zio_stages.specs.declared.leaf.Progress.TheVariants.{Answered, Due, Out}

-- the place's first byte and its bytes have numbers
pub record IsSpanned (p : Place) : Type 0 where
  pub at : offset_of p < 2 ^ 64
  pub len : p.sectors * sector_size < 2 ^ 32

-- ---- as a leaf's queue takes it

-- its class there, and whether it rewrites a copy that was found bad
pub record IsQueuedAs (prio : Prio) (repair : Bool) (w : LeafWork) : Type 0 where
  pub class : w.op.prio ≡ prio
  pub mends : w.op.flags.repair ≡ repair

-- ---- what it comes to

abbrev pub len_in : Act → ℕ
len_in (Read len) = len
len_in Write = 0

abbrev pub len_of : LeafWork → ℕ
len_of w = len_in w.act

-- the answer that an error and bytes show
abbrev pub shown_in : Act → Option Errno → List ℕ → Answer
shown_in act (Some e) bytes = Err e
shown_in (Read len) None bytes = Ok bytes
shown_in Write None bytes = Ok []

abbrev pub shown_by : LeafWork → Option Errno → List ℕ → Answer
shown_by w error bytes = shown_in w.act error bytes

-- ---- as a node's part

-- a read of so many bytes, or a write
abbrev pub IsDoneBy : Act → LeafOp → Type 0
IsDoneBy (Read len) (Fetch retry n spot) = n ≡ len
IsDoneBy (Read len) (Store retry bytes spot) = ⊥
IsDoneBy Write (Fetch retry n spot) = ⊥
IsDoneBy Write (Store retry bytes spot) = Unit {0}

-- nothing of it is heard, or its answer
abbrev pub IsHeardAs : Progress → List ℕ → LeafOp → Frame → Type 0
IsHeardAs (Due held) bytes act x = (held ≡ bytes) × (x.asked ≡ []) × (x.slots ≡ [])
IsHeardAs Out bytes act x = (x.asked ≡ []) × (x.slots ≡ [])
IsHeardAs (Answered a) bytes act x = (x.asked ≡ Leaf act ∷ []) × (x.slots ≡ Heard (Got a) ∷ [])

-- The part is this operation on a leaf, with these bytes if it is a write.
pub record IsLeafWork (t : Terms) (w : LeafWork) (x : Frame) : Type 0 where
  pub act : LeafOp
  pub bytes : List ℕ
  pub op : x.op ≡ Leaf act
  pub done : IsDoneBy w.act act
  pub is_op : IsOpFor act w.op w.leaf bytes
  pub heard : IsHeardAs w.stage bytes act x

abbrev pub IsDueAt : Progress → Type 0
IsDueAt (Due bytes) = Unit {0}
IsDueAt Out = ⊥
IsDueAt (Answered a) = ⊥

abbrev pub IsDue : LeafWork → Type 0
IsDue w = IsDueAt w.stage

abbrev pub IsAnsweredAt : Progress → Type 0
IsAnsweredAt (Due bytes) = ⊥
IsAnsweredAt Out = ⊥
IsAnsweredAt (Answered a) = Unit {0}

abbrev pub IsAnswered : LeafWork → Type 0
IsAnswered w = IsAnsweredAt w.stage

-- ---- the checksum of what was read

abbrev pub IsSumOf : SumKind → Progress → List ℕ → Type 0
IsSumOf sum (Answered (Ok bytes)) words = words ≡ sum_of sum bytes
IsSumOf sum (Answered (Err e)) words = ⊥
IsSumOf sum (Due bytes) words = ⊥
IsSumOf sum Out words = ⊥

-- something was read, and these words are its checksum of the kind that is wanted
abbrev pub IsSumAhead : LeafWork → List ℕ → Type 0
IsSumAhead w words = IsSumOf w.sum w.stage words
