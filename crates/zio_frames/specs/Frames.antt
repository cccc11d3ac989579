-- A node's work under way: the part of the round's work that it does, within it at most one part that it does itself, and
-- its children, which do others.
use Rattle.std.specs.Prelude.{ℕ, suc, cond, List, [], ◌∷◌, ◌++◌, length, slice_set, Bool, true, false, Option, Some, None}
use Rattle.zio_types.specs.declared.request.ChildKind.{ChildKind}
use Rattle.zio_types.specs.declared.request.ChildKind.TheVariants.{Vdev, Gang, Logical}
use Rattle.zio_gang.specs.Attempts.{Terms}
use Rattle.zio_trace.specs.Conflicts.{is_single}
use Rattle.zio_trace.specs.Plans.{TaskPlan, plan}
use Rattle.zio_trace.specs.Tasks.{Attempt, Leaf, Settle, Task, Value}
use Rattle.zio_trace.specs.Underway.{Call, Flight, part_of, plan_at}
use Rattle.zio_frames.specs.Slots.{Heard, IsOut, Slot, left_behind_slots}

-- ---- a part whose plan is under way

-- which operations it asked so far, and how far each of them is
pub record Frame : Type 0 where
  pub op : Task
  pub asked : List Task
  pub slots : List Slot

abbrev pub fresh_frame : Task → Frame
fresh_frame op = record { op = op; asked = []; slots = [] }

-- what is left of its plan
abbrev pub left_of : Terms → Frame → TaskPlan Value
left_of t x = left_behind_slots x.slots (plan t x.op)

-- one more was asked
abbrev pub with_asked : Frame → Task → Slot → Frame
with_asked x op slot = record { op = x.op; asked = x.asked ++ op ∷ []; slots = x.slots ++ slot ∷ [] }

-- the nth is so far now
abbrev pub with_slot : Frame → ℕ → Slot → Frame
with_slot x n slot = record { op = x.op; asked = x.asked; slots = slice_set x.slots n slot }

-- ---- a node

-- a part that a node does within its own, as the operation of this number
pub record Inner : Type 0 where
  pub number : ℕ
  pub frame : Frame

-- where a child's operation stands: it is one of the node's own part, or of the part within that
pub data Seat : Type 0 where
  OfOuter : ℕ → Seat
  OfInner : ℕ → Seat

-- a child that was handed out: where its operation stands, its kind, whether it told its pointer or needs none, and whether
-- it ended
pub record Child : Type 0 where
  pub seat : Seat
  pub kind : ChildKind
  pub told : Bool
  pub ended : Bool

-- The node's part, the part within, and its children by number.
pub record Stack : Type 0 where
  pub outer : Frame
  pub inner : Option Inner
  pub children : List Child

-- nothing of it is done
abbrev pub fresh_stack : Task → Stack
fresh_stack op = record { outer = fresh_frame op; inner = None; children = [] }

-- the part that asks: the inner one where there is one
abbrev pub asking_in : Frame → Option Inner → Frame
asking_in outer None = outer
asking_in outer (Some i) = i.frame

abbrev pub asking : Stack → Frame
asking st = asking_in st.outer st.inner

-- the kind of the child that does it
abbrev pub kind_of_task : Task → ChildKind
kind_of_task (Leaf act) = Vdev
kind_of_task (Attempt attempt p kids) = Logical
kind_of_task (Settle p kids) = Logical
kind_of_task _ = Gang

-- a vdev child needs no pointer
abbrev pub needs_none : ChildKind → Bool
needs_none Vdev = true
needs_none Gang = false
needs_none Logical = false

-- ---- its flights

-- those of the operations asked that are out, by number
abbrev pub outs_from : List ℕ → ℕ → List Task → List Slot → List Call
outs_from at n [] slots = []
outs_from at n (q ∷ asked) [] = []
outs_from at n (q ∷ asked) (Heard v ∷ slots) = outs_from at (suc n) asked slots
outs_from at n (q ∷ asked) (IsOut told ∷ slots) = record { number = n; op = part_of at n q; told = told } ∷ outs_from at (suc n) asked slots

-- the part as a node in flight of the work; a single operation asks itself, in its own place
abbrev pub flight_at : Terms → List ℕ → Frame → Flight
flight_at t at x = record {
  op = record { at = at; op = x.op };
  rest = left_behind_slots x.slots (plan_at t (record { at = at; op = x.op }));
  outs = outs_from at 0 x.asked x.slots;
  next = cond (is_single x.op) 0 (length x.slots);
}

abbrev pub inner_flights : Terms → List ℕ → Option Inner → List Flight
inner_flights t at None = []
inner_flights t at (Some i) = flight_at t (at ++ i.number ∷ []) i.frame ∷ []

-- a node, and the place of its part in the work
pub record Flying : Type 0 where
  pub at : List ℕ
  pub stack : Stack

abbrev pub flights_of : Terms → Flying → List Flight
flights_of t x = flight_at t x.at x.stack.outer ∷ inner_flights t x.at x.stack.inner

-- the place of an operation of it
abbrev pub place_in : List ℕ → Option Inner → Seat → List ℕ
place_in at inner (OfOuter n) = at ++ n ∷ []
place_in at None (OfInner n) = at ++ n ∷ []
place_in at (Some i) (OfInner n) = at ++ i.number ∷ n ∷ []

abbrev pub place_of : Flying → Seat → List ℕ
place_of x seat = place_in x.at x.stack.inner seat
