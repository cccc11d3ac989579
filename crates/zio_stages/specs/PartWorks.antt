-- The write of a part with its bytes and its own writes on leaves, as a node's part or behind other operations of that.
use Rattle.std.specs.Prelude.{◌≡◌, ℕ, ◌+◌, List, length, slice_get, Bool, true, false, Option, Some, None, IsTrue, ◌⊎◌}
use Rattle.std.specs.List.{AllByRecursion}
use Rattle.zio_types.specs.declared.place.Top.{Top}
use Rattle.zio_types.specs.Places.{is_unit}
use Rattle.zio_gang.specs.Attempts.{Terms}
use Rattle.zio_trace.specs.Conflicts.{is_single}
use Rattle.zio_trace.specs.Tasks.{Task}
use Rattle.zio_frames.specs.Frames.{Child, Inner, OfOuter, Stack}
use Rattle.zio_frames.specs.Slots.{IsOut, Slot}
use Rattle.zio_blkptr.specs.declared.pointer.Bp.{Bp}
use Rattle.zio_parts.specs.Parts.{PartWriting, places_at, slots_of}
use Rattle.zio_parts.specs.PartWrites.{is_due, is_ready, step_of}
use Rattle.zio_parts.specs.declared.parts.OwnWrite.{OwnWrite}
use Rattle.zio_parts.specs.declared.parts.OwnWrite.TheVariants.{Due, Out as OwnOut, Ended as OwnEnded}
use Rattle.zio_parts.specs.declared.parts.PartStep.{PartStep}
use Rattle.zio_parts.specs.declared.parts.PartStep.TheVariants.{AskBody, AskHead, Member as MemberStep}
use Rattle.zio_parts.specs.declared.parts.Placing.{Placing}
use Rattle.zio_parts.specs.declared.parts.Placing.TheVariants.{Body, Head as HeadDue, Whole, Gang, Nowhere}
use Rattle.zio_stages.specs.NodeIos.{NoneSits, SitsOn}
use Rattle.zio_stages.specs.OwnParts.{Follows, IsBehind}
use Rattle.zio_stages.specs.PartOwns.{ForBytes, ForMember, IsPartOwn, WrittenPart, asks_in, part_plan}
use Rattle.zio_stages.specs.WriteIos.{AreIoPlaces, IsOutIn, IsWriteIo, IsWriteOver, IsWriteStep}
use Rattle.zio_stages.specs.declared.family.Layer.TheVariants.{Within}
use Rattle.zio_stages.specs.declared.part_work.PartWork.{PartWork}
use Rattle.zio_stages.specs.declared.write_io.IoStep.TheVariants.{Child as ChildStep}
use Rattle.zio_stages.specs.declared.write_io.WriteIo.{WriteIo}

-- each top's unit is one that a pointer's place can have
abbrev pub HaveUnits : List Top → Type 0
HaveUnits tops = AllByRecursion (λ (top : Top). IsTrue (is_unit top.unit)) tops

-- ---- how far it is

-- the part within is the write of the body or the header, done by this WriteIo
pub record IsWithin (t : Terms) (bytes : List ℕ) (x : PartWriting) (front : ℕ) (io : WriteIo) (inner : Option Inner) : Type 0 where
  pub inside : Inner
  pub is : inner ≡ Some inside
  pub number : ℕ
  pub at : inside.number ≡ front + number
  pub asks : slice_get (asks_in x) number ≡ Some ForBytes
  pub writes : IsWriteIo t bytes io inside.frame

-- it isn't out
abbrev pub IsIdle : OwnWrite → Type 0
IsIdle Due = Unit {0}
IsIdle OwnOut = ⊥
IsIdle (OwnEnded error) = Unit {0}

-- if there is one
abbrev pub IsPartWithin : Terms → List ℕ → PartWriting → ℕ → Option WriteIo → Option Inner → Type 0
IsPartWithin t bytes x front None inner = (inner ≡ None) × IsIdle x.own
IsPartWithin t bytes x front (Some io) inner = IsWithin t bytes x front io inner

-- Behind these operations of the node's part it is so far in the write of this part, which asked these so far. It has the
-- part's bytes until its own write begins, and from then on those of that.
pub record IsPartWork (t : Terms) (w : PartWork) (o : WrittenPart) (front_asked : List Task) (front_slots : List Slot)
    (asked : List Task) (slots : List Slot) (st : Stack) : Type 0 where
  pub behind : IsBehind front_asked front_slots asked slots st
  pub own : IsPartOwn t w.own o asked slots
  pub bytes : is_due w.own.part.own ≡ true → o.bytes ≡ w.bytes
  pub within : IsPartWithin t w.bytes w.own.part (length front_slots) w.io st.inner

-- ---- behind a front

-- the part of a node, and which of its operations stand in front
pub record Front : Type 0 where
  pub part : Task
  pub asked : List Task
  pub slots : List Slot

-- so many do, and what this part asks next, the node's part asks next
pub record IsFront (t : Terms) (f : Front) (o : WrittenPart) (many : ℕ) : Type 0 where
  pub whole : is_single f.part ≡ false
  pub count : length f.slots ≡ many
  pub follows : Follows t f.part f.slots (part_plan t o)

-- the node's part is this, of which this one is the rest, and these are the node's children
pub record IsPartAt (t : Terms) (w : PartWork) (family : List Child) (f : Front) (o : WrittenPart) (st : Stack) : Type 0 where
  pub asked : List Task
  pub slots : List Slot
  pub op : st.outer.op ≡ f.part
  pub work : IsPartWork t w o f.asked f.slots asked slots st
  pub children : family ≡ st.children

-- ---- its fields

-- none of its writes on leaves is out where it writes nothing
abbrev pub IsIoOver : List Top → PartWriting → Option WriteIo → List Child → Type 0
IsIoOver tops x None family = NoneSits Within family
IsIoOver tops x (Some io) family = (x.own ≡ OwnOut) × IsWriteOver tops io × SitsOn Within (IsOutIn io) family

-- what they owe to each other, to the tops and to the node's children
pub record IsPartOver (tops : List Top) (w : PartWork) (family : List Child) : Type 0 where
  pub places : AreIoPlaces tops (places_at w.own.part.placing)
  pub bytes : is_due w.own.part.own ≡ true → length w.bytes ≡ w.own.part.size
  pub io : IsIoOver tops w.own.part w.io family

-- ---- its steps

-- how often places may be asked for yet
abbrev pub asks_left : Placing → ℕ
asks_left Body = 2
asks_left HeadDue = 1
asks_left (Whole places) = 0
asks_left (Gang places) = 0
asks_left Nowhere = 0

-- a member is to be handed out
abbrev pub IsMemberNext : PartStep → Type 0
IsMemberNext (MemberStep n) = Unit {0}
IsMemberNext _ = ⊥

-- all its places were asked for, and all its members handed out
abbrev pub IsPlaced : PartStep → Type 0
IsPlaced AskBody = ⊥
IsPlaced AskHead = ⊥
IsPlaced (MemberStep n) = ⊥
IsPlaced _ = Unit {0}

-- its own write went out, or it has no place
abbrev pub IsIssued : PartWriting → Type 0
IsIssued x = (x.placing ≡ Nowhere) ⊎ (is_due x.own ≡ false)

-- how many operations on leaves its own write asked, none before it begins
abbrev pub asked_by : Option WriteIo → ℕ
asked_by None = 0
asked_by (Some io) = io.asked

-- that is in its second pass
abbrev pub is_second : Option WriteIo → Bool
is_second None = false
is_second (Some io) = io.write.retry

-- another operation on a leaf is due for it
abbrev pub IsMoreDue : List Top → Option WriteIo → Type 0
IsMoreDue tops None = ⊥
IsMoreDue tops (Some io) = IsWriteStep tops io ChildStep

-- its own write has ended, or it has no place
abbrev pub IsWritten : PartWork → Type 0
IsWritten w = (w.io ≡ None) × ((w.own.part.placing ≡ Nowhere) ⊎ (is_due w.own.part.own ≡ false))

-- the second is no less far than the first: its members stay handed out, its pointer known, and its own write issued; and it
-- has as many members, at the same path
pub record IsNoLessFar (x y : PartWriting) : Type 0 where
  pub placed : IsPlaced (step_of x) → IsPlaced (step_of y)
  pub ready : is_ready x ≡ true → is_ready y ≡ true
  pub issued : IsIssued x → IsIssued y
  pub many : length y.members ≡ length x.members
  pub path : y.path ≡ x.path

-- ---- its members

-- the child of this number does a member's write, which is out and told this, if anything
pub record IsMemberAt (w : PartWork) (family : List Child) (front child : ℕ) (told : Option (Option Bp)) : Type 0 where
  pub number : ℕ
  pub now : Child
  pub is : slice_get family child ≡ Some now
  pub seat : now.seat ≡ OfOuter (front + number)
  pub goes : now.ended ≡ false
  pub member : slice_get (asks_in w.own.part) number ≡ Some ForMember
  pub out : slice_get (slots_of w.own.part) number ≡ Some (IsOut told)

-- what it told, if anything, is this pointer
abbrev pub IsToldAs : Option Bp → Option (Option Bp) → Type 0
IsToldAs pointer None = Unit {0}
IsToldAs pointer (Some told) = told ≡ pointer
