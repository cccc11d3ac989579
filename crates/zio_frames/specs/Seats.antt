-- Which of a node's operations its children do.
use Rattle.std.specs.Prelude.{◌≡◌, ◌≢◌, ℕ, List, [], ◌∷◌, length, slice_get, Bool, true, false, Option, Some, None, ◌⊎◌}
use Rattle.std.specs.List.{AllByRecursion}
use Rattle.zio_blkptr.specs.declared.pointer.Bp.{Bp}
use Rattle.zio_trace.specs.Tasks.{Task}
use Rattle.zio_frames.specs.Frames.{Child, Frame, Inner, OfInner, OfOuter, Seat, Stack, kind_of_task, needs_none}
use Rattle.zio_frames.specs.Slots.{IsOut, Slot}

abbrev pub slot_in_inner : Option Inner → ℕ → Option Slot
slot_in_inner None n = None
slot_in_inner (Some i) n = slice_get i.frame.slots n

-- how far the operation there is
abbrev pub slot_at : Stack → Seat → Option Slot
slot_at st (OfOuter n) = slice_get st.outer.slots n
slot_at st (OfInner n) = slot_in_inner st.inner n

abbrev pub asked_in_inner : Option Inner → ℕ → Option Task
asked_in_inner None n = None
asked_in_inner (Some i) n = slice_get i.frame.asked n

-- the operation there
abbrev pub asked_at : Stack → Seat → Option Task
asked_at st (OfOuter n) = slice_get st.outer.asked n
asked_at st (OfInner n) = asked_in_inner st.inner n

-- ---- what a child told

-- a child that told nothing yet
abbrev pub TellsNothing : Option (Option Bp) → Type 0
TellsNothing None = Unit {0}
TellsNothing (Some pointer) = ⊥

abbrev pub TellsSome : Option (Option Bp) → Type 0
TellsSome None = ⊥
TellsSome (Some pointer) = Unit {0}

-- what it told shows in the slot; a vdev child tells nothing, and counts as one that told
abbrev pub ShowsTold : Bool → Bool → Option (Option Bp) → Type 0
ShowsTold true true out = TellsNothing out
ShowsTold true false out = ⊥
ShowsTold false true out = TellsSome out
ShowsTold false false out = TellsNothing out

-- the part within is that operation
abbrev pub IsInnerSeat : Option Inner → Seat → Type 0
IsInnerSeat None seat = ⊥
IsInnerSeat (Some i) seat = seat ≡ OfOuter i.number

-- its operation is out there and isn't the part within, and this is what it told
pub record SitsAt (st : Stack) (c : Child) (op : Task) (told : Option (Option Bp)) : Type 0 where
  pub slot : slot_at st c.seat ≡ Some (IsOut told)
  pub asked : asked_at st c.seat ≡ Some op
  pub kind : c.kind ≡ kind_of_task op
  pub shows : ShowsTold (needs_none c.kind) c.told told
  pub beside : IsInnerSeat st.inner c.seat → ⊥

-- a child that hasn't ended does an operation that is out
abbrev pub HasSeat : Stack → Child → Type 0
HasSeat st c = c.ended ≡ false → (op : Task) × (told : Option (Option Bp)) × SitsAt st c op told

-- ---- all of them

-- a child that hasn't ended sits there
pub record IsSatAt (st : Stack) (seat : Seat) : Type 0 where
  pub number : ℕ
  pub child : Child
  pub is : slice_get st.children number ≡ Some child
  pub there : child.seat ≡ seat
  pub goes : child.ended ≡ false

-- no two that haven't ended do one operation
abbrev pub SitApart : List Child → Type 0
SitApart [] = Unit {0}
SitApart (c ∷ cs) = AllByRecursion (λ (d : Child). c.ended ≡ false → d.ended ≡ false → c.seat ≢ d.seat) cs × SitApart cs

-- each operation that was asked is so far
pub record IsFull (x : Frame) : Type 0 where
  pub lengths : length x.asked ≡ length x.slots

abbrev pub InnerFits : Stack → Option Inner → Type 0
InnerFits st None = Unit {0}
InnerFits st (Some i) =
    IsFull i.frame × (slice_get st.outer.slots i.number ≡ Some (IsOut None)) × (slice_get st.outer.asked i.number ≡ Some i.frame.op)

-- Each operation of a node that is out is done by one of its children, or is the part within it; and each child that hasn't
-- ended does one of them.
pub record IsSeated (st : Stack) : Type 0 where
  pub outer : IsFull st.outer
  pub inner : InnerFits st st.inner
  pub each : AllByRecursion (HasSeat st) st.children
  pub apart : SitApart st.children
  pub all : (seat : Seat) (told : Option (Option Bp)) → slot_at st seat ≡ Some (IsOut told) → IsInnerSeat st.inner seat ⊎ IsSatAt st seat
