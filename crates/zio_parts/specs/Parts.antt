-- The write of a part of a block under way: its members, its pointer and its header, which operations of its plan were asked so
-- far, and what is left of that.
use Rattle.std.specs.Prelude.{◌≡◌, ℕ, List, [], ◌∷◌, ◌++◌, length, map, slice_index_or, Bool, true, false, nat_le, Option, Some, None}
use Rattle.std.specs.List.{flat_map}
use Rattle.zio_types.specs.declared.error.Errno.{Errno}
use Rattle.zio_types.specs.declared.place.Place.{Place}
use Rattle.zio_types.specs.Choices.{Ask, no_place}
use Rattle.zio_types.specs.Errors.{worst_error, worst_of}
use Rattle.zio_types.specs.Filled.{filled_to}
use Rattle.zio_types.specs.Places.{sector_size}
use Rattle.zio_blkptr.specs.declared.pointer.Bp.{Bp}
use Rattle.zio_cksum.specs.Headers.{header_of, members_max, split_sizes}
use Rattle.zio_cksum.specs.Images.{Setting}
use Rattle.zio_cksum.specs.Sums.{sum_of}
use Rattle.zio_gang.specs.declared.tree.Head.{Head}
use Rattle.zio_gang.specs.Writes.{Writing, cut}
use Rattle.zio_trace.specs.Plans.{TaskPlan, plan_part}
use Rattle.zio_trace.specs.Programs.{ask}
use Rattle.zio_trace.specs.Tasks.{Found, Stored, StoredAs, Task, Value, Wrote, nowhere}
use Rattle.zio_frames.specs.Slots.{Heard, IsOut, Slot, left_behind_slots}
use Rattle.zio_parts.specs.declared.parts.BlockWrite.{BlockWrite}
use Rattle.zio_parts.specs.declared.members.Member.{Member}
use Rattle.zio_parts.specs.declared.members.Member.TheVariants.{Out as MemberOut, Told, Ended as MemberEnded}
use Rattle.zio_parts.specs.declared.parts.OwnWrite.{OwnWrite}
use Rattle.zio_parts.specs.declared.parts.OwnWrite.TheVariants.{Due, Out as OwnOut, Ended as OwnEnded}
use Rattle.zio_parts.specs.declared.parts.PlaceAsk.{PlaceAsk}
use Rattle.zio_parts.specs.declared.parts.Placing.{Placing}
use Rattle.zio_parts.specs.declared.parts.Placing.TheVariants.{Body, Head as HeadDue, Whole, Gang, Nowhere}

-- The write's own, the part's path, size and sum, what became of its places, its members that were handed out, in their
-- order, and the write of its body or its header.
pub record PartWriting : Type 0 where
  pub write : BlockWrite
  pub path : List ℕ
  pub size : ℕ
  pub words : List ℕ
  pub placing : Placing
  pub members : List Member
  pub own : OwnWrite

-- nothing of it is asked
abbrev pub fresh_part : BlockWrite → List ℕ → List ℕ → PartWriting
fresh_part write path bytes = record {
  write = write;
  path = path;
  size = length bytes;
  words = sum_of write.sum bytes;
  placing = Body;
  members = [];
  own = Due;
}

-- it is the write of these bytes
pub record IsOfBytes (x : PartWriting) (bytes : List ℕ) : Type 0 where
  pub size : x.size ≡ length bytes
  pub words : x.words ≡ sum_of x.write.sum bytes

-- what all parts of the block's write share
abbrev pub writing_by : Setting → BlockWrite → Writing
writing_by s w = record {
  setting = s;
  request = w.request;
  round = w.round;
  attempt = w.attempt;
  sum = w.sum;
  copies = w.copies;
  birth = w.birth;
}

abbrev pub ask_by : PlaceAsk → Ask
ask_by a = record { key = a.key; size = a.size; copies = a.copies }

-- ---- its members

abbrev pub member_slot : Member → Slot
member_slot MemberOut = IsOut None
member_slot (Told pointer) = IsOut (Some pointer)
member_slot (MemberEnded error pointer heads) = Heard (StoredAs (record { error = error; pointer = pointer; heads = heads }))

-- the pointer that it told or has
abbrev pub pointer_in : Member → Option Bp
pointer_in MemberOut = None
pointer_in (Told pointer) = pointer
pointer_in (MemberEnded error pointer heads) = pointer

abbrev pub error_in : Member → Option Errno
error_in MemberOut = None
error_in (Told pointer) = None
error_in (MemberEnded error pointer heads) = error

abbrev pub heads_in : Member → List Head
heads_in MemberOut = []
heads_in (Told pointer) = []
heads_in (MemberEnded error pointer heads) = heads

-- it told its pointer
abbrev pub is_told : Member → Bool
is_told MemberOut = false
is_told (Told pointer) = true
is_told (MemberEnded error pointer heads) = true

abbrev pub is_ended : Member → Bool
is_ended MemberOut = false
is_ended (Told pointer) = false
is_ended (MemberEnded error pointer heads) = true

-- it is out, and what it told, if anything, is this
abbrev pub IsOutWith : Option Bp → Option Member → Type 0
IsOutWith pointer None = ⊥
IsOutWith pointer (Some MemberOut) = Unit {0}
IsOutWith pointer (Some (Told told)) = told ≡ pointer
IsOutWith pointer (Some (MemberEnded error other heads)) = ⊥

-- how many members it has as a gang
abbrev pub member_count : PartWriting → ℕ
member_count x = length (split_sizes x.size)

-- the bytes of the nth
abbrev pub member_bytes : List ℕ → ℕ → List ℕ
member_bytes bytes n = slice_index_or (cut (split_sizes (length bytes)) bytes) n []

-- ---- its places

abbrev pub places_at : Placing → List Place
places_at Body = []
places_at HeadDue = []
places_at (Whole places) = places
places_at (Gang places) = places
places_at Nowhere = []

abbrev pub is_gang : Placing → Bool
is_gang Body = false
is_gang HeadDue = false
is_gang (Whole places) = false
is_gang (Gang places) = true
is_gang Nowhere = false

abbrev pub is_head_due : Placing → Bool
is_head_due Body = false
is_head_due HeadDue = true
is_head_due (Whole places) = false
is_head_due (Gang places) = false
is_head_due Nowhere = false

-- ---- its pointer and its header

abbrev pub pointer_over : PartWriting → Bool → List Place → Bp
pointer_over x gang places = record {
  count = length places;
  places = filled_to no_place 3 places;
  gang = gang;
  size = x.size;
  sum = x.write.sum;
  birth = x.write.birth;
  words = x.words;
}

-- the header over its members' pointers, for its first place
abbrev pub header_by : PartWriting → List Place → List ℕ
header_by x places = header_of (filled_to None members_max (map pointer_in x.members)) (slice_index_or places 0 no_place) x.write.birth

abbrev pub own_error : OwnWrite → Option Errno
own_error Due = None
own_error OwnOut = None
own_error (OwnEnded error) = error

-- what it leaves when it ended
abbrev pub stored_at : Placing → PartWriting → Stored
stored_at Body x = nowhere
stored_at HeadDue x = nowhere
stored_at (Whole places) x = record { error = own_error x.own; pointer = Some (pointer_over x false places); heads = [] }
stored_at (Gang places) x = record {
  error = worst_error (worst_of (map error_in x.members)) (own_error x.own);
  pointer = Some (pointer_over x true places);
  heads = record { path = x.path; bytes = header_by x places } ∷ flat_map heads_in x.members;
}
stored_at Nowhere x = nowhere

abbrev pub stored_by : PartWriting → Stored
stored_by x = stored_at x.placing x

-- ---- the operations of its plan that were asked

abbrev pub own_slots : OwnWrite → List Slot
own_slots Due = []
own_slots OwnOut = IsOut None ∷ []
own_slots (OwnEnded error) = Heard (Wrote error) ∷ []

-- one sector isn't asked for once more
abbrev pub refused_slots : Bool → List Slot
refused_slots true = Heard (Found None) ∷ []
refused_slots false = Heard (Found None) ∷ Heard (Found None) ∷ []

abbrev pub slots_at : Placing → PartWriting → List Slot
slots_at Body x = []
slots_at HeadDue x = Heard (Found None) ∷ []
slots_at (Whole places) x = Heard (Found (Some places)) ∷ own_slots x.own
slots_at (Gang places) x = Heard (Found None) ∷ Heard (Found (Some places)) ∷ map member_slot x.members ++ own_slots x.own
slots_at Nowhere x = refused_slots (nat_le x.size sector_size)

abbrev pub slots_of : PartWriting → List Slot
slots_of x = slots_at x.placing x

-- the plan of the part, whose members are written by such tasks
abbrev pub plan_of_part : Writing → (List ℕ → List ℕ → Task) → List ℕ → List ℕ → TaskPlan Value
plan_of_part w member path bytes = plan_part w (λ below part. ask (member below part)) path bytes

-- the plan of the bytes that it writes, and what is left of that
abbrev pub whole_plan : Setting → (List ℕ → List ℕ → Task) → List ℕ → PartWriting → TaskPlan Value
whole_plan s member bytes x = plan_of_part (writing_by s x.write) member x.path bytes

abbrev pub left_of_part : Setting → (List ℕ → List ℕ → Task) → List ℕ → PartWriting → TaskPlan Value
left_of_part s member bytes x = left_behind_slots (slots_of x) (whole_plan s member bytes x)
