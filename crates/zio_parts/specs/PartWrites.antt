-- The write of a part of a block under way: what is next, what the calls change, and what they show of what is left.
use Rattle.std.specs.Prelude.{◌≡◌, ℕ, suc, ◌-◌, ◌*◌, ◌^◌, ◌%◌, ◌<◌, ◌≤◌, List, [], ◌∷◌, ◌++◌, length, slice_set, Bool, true, false, ◌&&◌, cond, nat_le, nat_lt, Option, Some, None, Contains, IsTrue, IfSome}
use Rattle.std.specs.List.{AllByRecursion, list_all}
use Rattle.zio_types.specs.declared.error.Errno.{Errno}
use Rattle.zio_types.specs.declared.place.Place.{Place}
use Rattle.zio_types.specs.Places.{sector_size}
use Rattle.zio_blkptr.specs.declared.pointer.Bp.{Bp}
use Rattle.zio_blkptr.specs.Pointers.{valid}
use Rattle.zio_cksum.specs.Images.{Setting}
use Rattle.zio_gang.specs.declared.tree.Head.{Head}
use Rattle.zio_gang.specs.Writes.{body_ask, head_ask}
use Rattle.zio_trace.specs.Calls.{NextIs}
use Rattle.zio_trace.specs.Plans.{TaskPlan}
use Rattle.zio_trace.specs.Programs.{Asks, Ends}
use Rattle.zio_trace.specs.Tasks.{Find, StoredAs, Task, Value, WriteCopies, stored}
use Rattle.zio_frames.specs.Slots.{AllHeard, AsksBehindSlots, told_in}
use Rattle.zio_parts.specs.declared.members.Member.{Member}
use Rattle.zio_parts.specs.declared.members.Member.TheVariants.{Out as MemberOut, Told, Ended as MemberEnded}
use Rattle.zio_parts.specs.declared.parts.OwnWrite.{OwnWrite}
use Rattle.zio_parts.specs.declared.parts.OwnWrite.TheVariants.{Due, Out as OwnOut, Ended as OwnEnded}
use Rattle.zio_parts.specs.declared.parts.PartStep.{PartStep}
use Rattle.zio_parts.specs.declared.parts.PartStep.TheVariants.{AskBody, AskHead, WriteBody, WriteHeader, Member as MemberStep, WaitReady, Wait, End}
use Rattle.zio_parts.specs.declared.parts.Placing.{Placing}
use Rattle.zio_parts.specs.declared.parts.Placing.TheVariants.{Body, Head as HeadDue, Whole, Gang, Nowhere}
use Rattle.zio_parts.specs.Parts.{PartWriting, header_by, is_ended, is_gang, is_head_due, is_told, left_of_part, member_bytes, member_count, places_at, pointer_in, pointer_over, slots_of, stored_by, whole_plan, writing_by}

-- ---- what is next

abbrev pub own_step : OwnWrite → PartStep → PartStep → PartStep
own_step Due due over = due
own_step OwnOut due over = Wait
own_step (OwnEnded error) due over = over

-- behind its members, each of which was handed out: the header once all told their pointers, the end once all ended
abbrev pub headed_step : Bool → List Member → OwnWrite → PartStep
headed_step false members own = WaitReady
headed_step true members own = own_step own WriteHeader (cond (list_all is_ended members) End Wait)

abbrev pub member_step : Bool → List Member → OwnWrite → PartStep
member_step true members own = MemberStep (length members)
member_step false members own = headed_step (list_all is_told members) members own

-- of a gang with so many members
abbrev pub gang_step_of : ℕ → List Member → OwnWrite → PartStep
gang_step_of count members own = member_step (nat_lt (length members) count) members own

abbrev pub step_at : Placing → PartWriting → PartStep
step_at Body x = AskBody
step_at HeadDue x = AskHead
step_at (Whole places) x = own_step x.own WriteBody End
step_at (Gang places) x = gang_step_of (member_count x) x.members x.own
step_at Nowhere x = End

abbrev pub step_of : PartWriting → PartStep
step_of x = step_at x.placing x

-- it has its places or none, and all its members told theirs
abbrev pub is_ready_at : Placing → PartWriting → Bool
is_ready_at Body x = false
is_ready_at HeadDue x = false
is_ready_at (Whole places) x = true
is_ready_at (Gang places) x = nat_le (member_count x) (length x.members) && list_all is_told x.members
is_ready_at Nowhere x = true

abbrev pub is_ready : PartWriting → Bool
is_ready x = is_ready_at x.placing x

-- the step hands something out
abbrev pub IsHandedOut : PartStep → Type 0
IsHandedOut WriteBody = Unit {0}
IsHandedOut WriteHeader = Unit {0}
IsHandedOut (MemberStep n) = Unit {0}
IsHandedOut _ = ⊥

-- the step asks for places
abbrev pub IsAsk : PartStep → Type 0
IsAsk AskBody = Unit {0}
IsAsk AskHead = Unit {0}
IsAsk _ = ⊥

-- nothing of it is left but what is out
abbrev pub IsLast : PartStep → Type 0
IsLast Wait = Unit {0}
IsLast End = Unit {0}
IsLast _ = ⊥

-- ---- what calls change

-- where a body is refused a header is asked for, unless the part is one sector
abbrev pub placing_without : Bool → Placing
placing_without true = Nowhere
placing_without false = HeadDue

-- what becomes of the part: whether a header was asked for, the part's size, and the places found
abbrev pub placed_next : Bool → ℕ → Option (List Place) → Placing
placed_next false size (Some places) = Whole places
placed_next false size None = placing_without (nat_le size sector_size)
placed_next true size (Some places) = Gang places
placed_next true size None = Nowhere

-- places were found, or none
abbrev pub places_heard : PartWriting → Option (List Place) → PartWriting
places_heard x places = record {
  write = x.write;
  path = x.path;
  size = x.size;
  words = x.words;
  placing = placed_next (is_head_due x.placing) x.size places;
  members = x.members;
  own = x.own;
}

-- these are its members now
abbrev pub with_members : PartWriting → List Member → PartWriting
with_members x members = record {
  write = x.write;
  path = x.path;
  size = x.size;
  words = x.words;
  placing = x.placing;
  members = members;
  own = x.own;
}

-- the write of its body or header is this now
abbrev pub with_own : PartWriting → OwnWrite → PartWriting
with_own x own = record {
  write = x.write;
  path = x.path;
  size = x.size;
  words = x.words;
  placing = x.placing;
  members = x.members;
  own = own;
}

-- the child of the step is out
abbrev pub handed_by : PartStep → PartWriting → PartWriting
handed_by (MemberStep n) x = with_members x (x.members ++ MemberOut ∷ [])
handed_by _ x = with_own x OwnOut

abbrev pub part_handed : PartWriting → PartWriting
part_handed x = handed_by (step_of x) x

-- a member told its pointer
abbrev pub member_told : PartWriting → ℕ → Option Bp → PartWriting
member_told x n pointer = with_members x (slice_set x.members n (Told pointer))

-- a member ended
abbrev pub member_heard : PartWriting → ℕ → Option Errno → Option Bp → List Head → PartWriting
member_heard x n error pointer heads = with_members x (slice_set x.members n (MemberEnded error pointer heads))

-- their numbers among the operations that were asked: the members stand behind the two asks, and the write of the body or
-- the header last
abbrev pub member_at : ℕ → ℕ
member_at n = suc (suc n)

abbrev pub own_at : PartWriting → ℕ
own_at x = length (slots_of x) - 1

-- the body or the header was written
abbrev pub own_heard : PartWriting → Option Errno → PartWriting
own_heard x error = with_own x (OwnEnded error)

-- ---- what its fields owe

-- a pointer that a member told can be spelled
abbrev pub IsSpelled : Member → Type 0
IsSpelled m = IfSome (pointer_in m) (λ bp. IsTrue (valid bp))

abbrev pub is_due : OwnWrite → Bool
is_due Due = true
is_due OwnOut = false
is_due (OwnEnded error) = false

pub record IsUnplaced (x : PartWriting) : Type 0 where
  pub members : x.members ≡ []
  pub own : x.own ≡ Due

-- A gang: only a part of more than a sector is one, it has no more members than parts, and its header is written once
-- each of these told its pointer.
pub record IsGang (x : PartWriting) (places : List Place) : Type 0 where
  pub large : sector_size < x.size
  pub spelled : IsTrue (valid (pointer_over x true places))
  pub few : length x.members ≤ member_count x
  pub headed : is_due x.own ≡ false → (length x.members ≡ member_count x) × (list_all is_told x.members ≡ true)

abbrev pub IsPlacedWell : Placing → PartWriting → Type 0
IsPlacedWell Body x = IsUnplaced x
IsPlacedWell HeadDue x = (sector_size < x.size) × IsUnplaced x
IsPlacedWell (Whole places) x = (x.members ≡ []) × IsTrue (valid (pointer_over x false places))
IsPlacedWell (Gang places) x = IsGang x places
IsPlacedWell Nowhere x = IsUnplaced x

pub record IsPartWriting (x : PartWriting) : Type 0 where
  pub some : 0 < x.size
  pub whole : x.size % 512 ≡ 0
  pub most : x.size ≤ 1048576
  pub deep : x.size ≤ 512 * 3 ^ (8 - length x.path)
  pub one : 1 ≤ x.write.copies
  pub three : x.write.copies ≤ 3
  pub born : 1 ≤ x.write.birth
  pub placed : IsPlacedWell x.placing x
  pub spelled : AllByRecursion IsSpelled x.members

-- ---- what the calls show

-- the pointer that a part has which was written
abbrev pub stored_pointer : Value → Option Bp
stored_pointer v = (stored v).pointer

-- whatever is answered, it ends so
abbrev pub EndsAlways : (Value → Type 0) → TaskPlan Value → Type 0
EndsAlways P (Ends v) = P v
EndsAlways P (Asks op more) = (answer : Value) → EndsAlways P (more answer)

-- What a step shows of the rest: the operation that its plan asks behind those that were asked, whatever those that are out
-- are answered; for the header, whatever parts with the pointers that they told; that something is out; or its end.
abbrev pub ShowsPart : Setting → (List ℕ → List ℕ → Task) → List ℕ → PartWriting → PartStep → Type 0
ShowsPart s member bytes x AskBody =
    AsksBehindSlots (slots_of x) (whole_plan s member bytes x) (Find (body_ask (writing_by s x.write) x.path bytes))
ShowsPart s member bytes x AskHead =
    AsksBehindSlots (slots_of x) (whole_plan s member bytes x) (Find (head_ask (writing_by s x.write) x.path))
ShowsPart s member bytes x WriteBody =
    AsksBehindSlots (slots_of x) (whole_plan s member bytes x) (WriteCopies bytes (places_at x.placing))
ShowsPart s member bytes x WriteHeader =
    (is_gang x.placing ≡ true)
    × NextIs stored_pointer (told_in (slots_of x)) (left_of_part s member bytes x)
    (WriteCopies (header_by x (places_at x.placing)) (places_at x.placing))
ShowsPart s member bytes x (MemberStep n) =
    (is_gang x.placing ≡ true) × (n < member_count x)
    × AsksBehindSlots (slots_of x) (whole_plan s member bytes x) (member (x.path ++ n ∷ []) (member_bytes bytes n))
ShowsPart s member bytes x WaitReady = Contains (told_in (slots_of x)) None
ShowsPart s member bytes x Wait = 0 < length (told_in (slots_of x))
ShowsPart s member bytes x End = AllHeard (slots_of x) × (left_of_part s member bytes x ≡ Ends (StoredAs (stored_by x)))
