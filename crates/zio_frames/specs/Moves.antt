-- The moves of a node: what it does itself, what it hands to a child, and what it hears of its children.
use Rattle.std.specs.Prelude.{◌≡◌, ℕ, List, [], ◌∷◌, ◌++◌, length, slice_set, Bool, true, false, Option, Some, None}
use Rattle.std.specs.List.{flat_map}
use Rattle.zio_types.specs.Choices.{Choice}
use Rattle.zio_blkptr.specs.declared.pointer.Bp.{Bp}
use Rattle.zio_gang.specs.declared.tree.Tree.{Tree}
use Rattle.zio_gang.specs.Attempts.{Terms}
use Rattle.zio_trace.specs.Conflicts.{is_single}
use Rattle.zio_trace.specs.Entries.{answer_to}
use Rattle.zio_trace.specs.Leaves.{Store}
use Rattle.zio_trace.specs.Programs.{Ends}
use Rattle.zio_trace.specs.Tasks.{Find, Leaf, TakePlaces, Taken, Task, Value}
use Rattle.zio_trace.specs.Underway.{early}
use Rattle.zio_frames.specs.Answering.{EndsAnswered, NextAnswered}
use Rattle.zio_frames.specs.Frames.{Child, Frame, Inner, OfInner, OfOuter, Seat, Stack, fresh_frame, kind_of_task, left_of, needs_none, with_asked, with_slot}
use Rattle.zio_frames.specs.Slots.{AllHeard, Heard, IsOut, Slot, told_in}

-- While the first is out the second may be asked: behind a write on a leaf another of the same pass, behind a part whatever
-- comes, and behind a read on a leaf or an act of the space nothing.
abbrev pub GoesBeside : Task → Task → Type 0
GoesBeside (Leaf (Store retry bytes spot)) (Leaf (Store again others at)) = retry ≡ again
GoesBeside (Leaf act) op = ⊥
GoesBeside (Find a) op = ⊥
GoesBeside (TakePlaces tree) op = ⊥
GoesBeside _ op = Unit {0}

-- while all of these that are out are
abbrev pub GoesBesideAll : Task → List Task → List Slot → Type 0
GoesBesideAll op [] slots = Unit {0}
GoesBesideAll op (q ∷ asked) [] = Unit {0}
GoesBesideAll op (q ∷ asked) (Heard v ∷ slots) = GoesBesideAll op asked slots
GoesBesideAll op (q ∷ asked) (IsOut told ∷ slots) = GoesBeside q op × GoesBesideAll op asked slots

-- the part asks this next, whatever of their kind its operations that are out are answered, and may ask it while they are
pub record AsksNext (t : Terms) (x : Frame) (op : Task) : Type 0 where
  pub next : NextAnswered (told_in x.slots) (left_of t x) op
  pub beside : GoesBesideAll op x.asked x.slots

-- its value will have this pointer, whatever of their kind its operations are answered
abbrev pub WillHave : Terms → Frame → Option Bp → Type 0
WillHave t x pointer = EndsAnswered (λ v. early v ≡ pointer) (told_in x.slots) (left_of t x)

-- ---- what it does itself

-- these are its frames now
abbrev pub with_frames : Stack → Frame → Option Inner → Stack
with_frames st outer inner = record { outer = outer; inner = inner; children = st.children }

-- a part within began, or ended with this value; places were asked for, and this was the choice; a claimed tree's places
-- were taken, or weren't free
pub data Did : Type 0 where
  Opened : Task → Did
  Closed : Value → Did
  Chose : Choice → Did
  Took : Tree → Bool → Did

abbrev pub opened : Stack → Task → Stack
opened st op = with_frames st (with_asked st.outer op (IsOut None)) (Some (record { number = length st.outer.slots; frame = fresh_frame op }))

abbrev pub closed : Stack → Inner → Value → Stack
closed st i v = with_frames st (with_slot st.outer i.number (Heard v)) None

-- a single operation of its own part, done at once
abbrev pub done_at_once : Stack → Task → Value → Stack
done_at_once st op v = with_frames st (with_asked st.outer op (Heard v)) None

abbrev pub Does : Terms → Did → Stack → Stack → Type 0
Does t (Opened op) a b = (a.inner ≡ None) × (is_single op ≡ false) × AsksNext t a.outer op × (b ≡ opened a op)
Does t (Closed v) a b = (i : Inner) × (a.inner ≡ Some i) × AllHeard i.frame.slots × (left_of t i.frame ≡ Ends v) × (b ≡ closed a i v)
Does t (Chose c) a b = (a.inner ≡ None) × AsksNext t a.outer (Find c.asked) × (b ≡ done_at_once a (Find c.asked) (answer_to c))
Does t (Took tree free) a b = (a.inner ≡ None) × AsksNext t a.outer (TakePlaces tree) × (b ≡ done_at_once a (TakePlaces tree) (Taken free))

-- one after another
abbrev pub DoesAll : Terms → List Did → Stack → Stack → Type 0
DoesAll t [] a b = b ≡ a
DoesAll t (did ∷ dids) a b = (mid : Stack) × Does t did a mid × DoesAll t dids mid b

abbrev pub choices_by : Did → List Choice
choices_by (Chose c) = c ∷ []
choices_by _ = []

-- the choices that the space made for it, in their order
abbrev pub choices_of : List Did → List Choice
choices_of dids = flat_map choices_by dids

-- ---- its children

abbrev pub seat_in : Frame → Option Inner → Seat
seat_in outer None = OfOuter (length outer.slots)
seat_in outer (Some i) = OfInner (length i.frame.slots)

-- where the next operation stands
abbrev pub next_seat : Stack → Seat
next_seat st = seat_in st.outer st.inner

abbrev pub with_asking : Stack → Option Inner → Task → Stack
with_asking st None op = with_frames st (with_asked st.outer op (IsOut None)) None
with_asking st (Some i) op = with_frames st st.outer (Some (record { number = i.number; frame = with_asked i.frame op (IsOut None) }))

abbrev pub with_children : Stack → List Child → Stack
with_children st children = record { outer = st.outer; inner = st.inner; children = children }

abbrev pub child_for : Seat → Task → Child
child_for seat op = record { seat = seat; kind = kind_of_task op; told = needs_none (kind_of_task op); ended = false }

-- the next operation is handed to a new child
abbrev pub handed : Stack → Task → Stack
handed st op = with_children (with_asking st st.inner op) (st.children ++ child_for (next_seat st) op ∷ [])

abbrev pub set_in_inner : Stack → Option Inner → ℕ → Slot → Stack
set_in_inner st None n slot = st
set_in_inner st (Some i) n slot = with_frames st st.outer (Some (record { number = i.number; frame = with_slot i.frame n slot }))

-- the operation there is so far now
abbrev pub set_at : Stack → Seat → Slot → Stack
set_at st (OfOuter n) slot = with_frames st (with_slot st.outer n slot) st.inner
set_at st (OfInner n) slot = set_in_inner st st.inner n slot

abbrev pub child_told : Child → Child
child_told c = record { seat = c.seat; kind = c.kind; told = true; ended = c.ended }

-- one that ended needs to tell nothing more
abbrev pub child_ended : Child → Child
child_ended c = record { seat = c.seat; kind = c.kind; told = true; ended = true }

-- the nth child, which sits there, told its pointer
abbrev pub heard_early : Stack → ℕ → Child → Option Bp → Stack
heard_early st n c pointer = with_children (set_at st c.seat (IsOut (Some pointer))) (slice_set st.children n (child_told c))

-- the nth child, which sat there, ended with this value
abbrev pub heard_of : Stack → ℕ → Child → Value → Stack
heard_of st n c v = with_children (set_at st c.seat (Heard v)) (slice_set st.children n (child_ended c))

-- ---- its end

-- nothing of it is out, and it ended with this value
pub record IsEnded (t : Terms) (st : Stack) (v : Value) : Type 0 where
  pub alone : st.inner ≡ None
  pub heard : AllHeard st.outer.slots
  pub value : left_of t st.outer ≡ Ends v
