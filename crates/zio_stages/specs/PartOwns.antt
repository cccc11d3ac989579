-- The write of a part of a block as a node's part of the work, or as a request's own within an attempt.
use Rattle.std.specs.Prelude.{◌≡◌, ℕ, zero, suc, ◌+◌, ◌*◌, ◌^◌, ◌≤◌, List, [], ◌∷◌, ◌++◌, length, map, Bool, true, false, Option, Some, None, nat_le}
use Rattle.std.specs.List.{AllByRecursion}
use Rattle.zio_types.specs.Paths.{path_steps_max}
use Rattle.zio_types.specs.Places.{sector_size}
use Rattle.zio_blkptr.specs.declared.pointer.Bp.{Bp}
use Rattle.zio_blkptr.specs.declared.pointer.SumKind.{SumKind}
use Rattle.zio_cksum.specs.Images.{Setting}
use Rattle.zio_gang.specs.Attempts.{Pending, Terms, writing_of}
use Rattle.zio_trace.specs.Plans.{TaskPlan, plan_write}
use Rattle.zio_trace.specs.Tasks.{Find, Task, Value, WriteCopies, WritePart}
use Rattle.zio_frames.specs.Answering.{NextAnswered}
use Rattle.zio_frames.specs.Slots.{IsOut, Slot, left_behind_slots, told_in}
use Rattle.zio_parts.specs.Parts.{IsOfBytes, PartWriting, is_gang, member_bytes, member_count, slots_of, writing_by}
use Rattle.zio_parts.specs.PartWrites.{ShowsPart, is_due, step_of}
use Rattle.zio_parts.specs.declared.members.Member.{Member}
use Rattle.zio_parts.specs.declared.members.Member.TheVariants.{Out as MemberOut, Told, Ended as MemberEnded}
use Rattle.zio_parts.specs.declared.parts.OwnWrite.{OwnWrite}
use Rattle.zio_parts.specs.declared.parts.OwnWrite.TheVariants.{Due, Out as OwnOut, Ended as OwnEnded}
use Rattle.zio_parts.specs.declared.parts.PartStep.{PartStep}
use Rattle.zio_parts.specs.declared.parts.Placing.{Placing}
use Rattle.zio_parts.specs.declared.parts.Placing.TheVariants.{Body, Head as HeadDue, Whole, Gang, Nowhere}
use Rattle.zio_exchange.specs.Outcomes.{IsKept}
use Rattle.zio_stages.specs.PartsOut.{ArePartsOut}
use Rattle.zio_stages.specs.declared.part.PartOwn.{PartOwn}

-- ---- what is written

-- a part of the block that a request writes in an attempt, with so many levels of headers below it
pub record WrittenPart : Type 0 where
  pub attempt : ℕ
  pub pending : Pending
  pub sum_kind : SumKind
  pub copies : ℕ
  pub levels : ℕ
  pub path : List ℕ
  pub bytes : List ℕ

abbrev pub part_task : WrittenPart → Task
part_task o = WritePart o.attempt o.pending o.sum_kind o.copies o.levels o.path o.bytes

abbrev pub part_plan : Terms → WrittenPart → TaskPlan Value
part_plan t o = plan_write t o.attempt o.pending o.sum_kind o.copies o.levels o.path o.bytes

abbrev pub level_below : ℕ → ℕ
level_below zero = zero
level_below (suc levels) = levels

-- its member at this path with these bytes
abbrev pub member_of : WrittenPart → List ℕ → List ℕ → WrittenPart
member_of o path bytes = record {
  attempt = o.attempt;
  pending = o.pending;
  sum_kind = o.sum_kind;
  copies = o.copies;
  levels = level_below o.levels;
  path = path;
  bytes = bytes;
}

-- ---- the operations that it asked

-- for places, for a member's write, or for the write of its body or header
pub data PartAsk : Type 0 where
  ForPlaces : PartAsk
  ForMember : PartAsk
  ForBytes : PartAsk
  ForOther : PartAsk

abbrev pub ask_of : Task → PartAsk
ask_of (Find a) = ForPlaces
ask_of (WritePart attempt p sum copies levels path bytes) = ForMember
ask_of (WriteCopies bytes places) = ForBytes
ask_of _ = ForOther

abbrev pub own_asks : OwnWrite → List PartAsk
own_asks Due = []
own_asks OwnOut = ForBytes ∷ []
own_asks (OwnEnded error) = ForBytes ∷ []

abbrev pub refused_asks : Bool → List PartAsk
refused_asks true = ForPlaces ∷ []
refused_asks false = ForPlaces ∷ ForPlaces ∷ []

abbrev pub member_asks : List Member → List PartAsk
member_asks members = map (λ (m : Member). ForMember) members

abbrev pub asks_at : Placing → PartWriting → List PartAsk
asks_at Body x = []
asks_at HeadDue x = ForPlaces ∷ []
asks_at (Whole places) x = ForPlaces ∷ own_asks x.own
asks_at (Gang places) x = ForPlaces ∷ ForPlaces ∷ (member_asks x.members ++ own_asks x.own)
asks_at Nowhere x = refused_asks (nat_le x.size sector_size)

-- by number: the places of its body and of a header, its members, and the write of its body or header
abbrev pub asks_in : PartWriting → List PartAsk
asks_in x = asks_at x.placing x

-- ---- what it leaves

-- of a member that ended
abbrev pub IsKeptMember : Member → Type 0
IsKeptMember MemberOut = Unit {0}
IsKeptMember (Told pointer) = Unit {0}
IsKeptMember (MemberEnded error pointer heads) = IsKept pointer heads

-- ---- how far it is

-- It is so far in the write of this part, whose plan asked these so far.
pub record IsPartOwn (t : Terms) (w : PartOwn) (o : WrittenPart) (asked : List Task) (slots : List Slot) : Type 0 where
  pub writing : writing_by t.setting w.part.write ≡ writing_of t o.attempt o.pending o.sum_kind o.copies
  pub path : w.part.path ≡ o.path
  pub of_bytes : IsOfBytes w.part o.bytes
  pub shown : slots ≡ slots_of w.part
  pub asks : map ask_of asked ≡ asks_in w.part
  pub full : length asked ≡ length slots
  pub out : ArePartsOut asked slots
  pub levels : length o.path + o.levels ≡ path_steps_max
  pub deep : length o.bytes ≤ 512 * 3 ^ o.levels
  pub few : length w.part.members ≤ member_count w.part
  pub headed : is_due w.part.own ≡ false → is_gang w.part.placing ≡ true → member_count w.part ≤ length w.part.members
  pub kept : AllByRecursion IsKeptMember w.part.members

-- the step is next, which shows what its plan asks
pub record ShowsOwn (w : PartOwn) (step : PartStep) : Type 0 where
  pub is : step ≡ step_of w.part
  pub shows : (s : Setting) (member : List ℕ → List ℕ → Task) (bytes : List ℕ) → IsOfBytes w.part bytes → ShowsPart s member bytes w.part step

-- its plan asks this behind what is out, whatever that is answered
abbrev pub PartAsks : Terms → WrittenPart → List Slot → Task → Type 0
PartAsks t o slots op = NextAnswered (told_in slots) (left_behind_slots slots (part_plan t o)) op

-- the operation is asked next, and is out then
abbrev pub HandsOut : Terms → PartOwn → WrittenPart → List Task → List Slot → Task → Type 0
HandsOut t now o asked slots op = PartAsks t o slots op × IsPartOwn t now o (asked ++ op ∷ []) (slots ++ IsOut None ∷ [])

-- the nth member is: its write is asked next, and is out then; nothing of it is done
pub record HandsMember (t : Terms) (now child : PartOwn) (o : WrittenPart) (n : ℕ) (asked : List Task) (slots : List Slot) : Type 0 where
  pub out : HandsOut t now o asked slots (part_task (member_of o child.part.path (member_bytes o.bytes n)))
  pub member : IsPartOwn t child (member_of o child.part.path (member_bytes o.bytes n)) [] []

-- ---- what is heard

-- it is out, and what it told, if anything, is this pointer
abbrev pub IsOutAs : Option Bp → Option Slot → Type 0
IsOutAs pointer (Some (IsOut None)) = Unit {0}
IsOutAs pointer (Some (IsOut (Some told))) = told ≡ pointer
IsOutAs pointer _ = ⊥
