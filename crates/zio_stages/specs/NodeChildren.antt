-- A node's children in an attempt by number: where each sits, whether it told or needs to, and whether it ended.
use Rattle.std.specs.Prelude.{◌≡◌, ℕ, List, [], ◌∷◌, Bool, true, false, ◌&&◌, ◌||◌, not, cond, Option, Some, None, is_some, slice_get, slice_set}
use Rattle.std.specs.List.{AllByRecursion, list_any}
use Rattle.zio_types.specs.declared.request.ChildKind.{ChildKind}
use Rattle.zio_types.specs.declared.request.ChildKind.TheVariants.{Vdev, Gang, Logical}
use Rattle.zio_types.specs.declared.request.Phase.{Phase}
use Rattle.zio_types.specs.declared.request.Phase.TheVariants.{Ready, Done}
use Rattle.zio_types.specs.Machine.{same_kind}
use Rattle.zio_counts.specs.declared.child.Child.{Child as Kept}
use Rattle.zio_frames.specs.Frames.{Child, OfInner, OfOuter, Seat as SeatOf, needs_none}
use Rattle.zio_stages.specs.declared.family.Layer.{Layer}
use Rattle.zio_stages.specs.declared.family.Layer.TheVariants.{Own, Within}
use Rattle.zio_stages.specs.declared.family.Seat.{Seat}
use Rattle.zio_stages.specs.declared.family.Seat.TheVariants.{Outer, Inner}
use Rattle.zio_stages.specs.declared.family.Sitting.{Sitting}

abbrev pub seat_of : Seat → SeatOf
seat_of (Outer n) = OfOuter n
seat_of (Inner n) = OfInner n

-- the nth operation of the part
abbrev pub layer_seat : Layer → ℕ → SeatOf
layer_seat Own n = OfOuter n
layer_seat Within n = OfInner n

-- a child of this kind as it is added; that is `child_for seat op` for each operation that a child of the kind does
abbrev pub new_child : SeatOf → ChildKind → Child
new_child seat kind = record { seat = seat; kind = kind; told = needs_none kind; ended = false }

-- ---- which of them are missing

-- it hasn't told yet, or hasn't ended
abbrev pub owes : Phase → Child → Bool
owes Ready c = not c.told
owes Done c = not c.ended

abbrev pub is_owing : ChildKind → Phase → Child → Bool
is_owing kind phase c = same_kind c.kind kind && owes phase c

-- it is missing there, and hasn't ended
abbrev pub is_awaited : ChildKind → Phase → Child → Bool
is_awaited kind Ready c = is_owing kind Ready c && not c.ended
is_awaited kind Done c = is_owing kind Done c

abbrev pub kind_or : ChildKind → List ChildKind → Phase → List Child → Option ChildKind → Option ChildKind
kind_or kind kinds phase children others =
    cond (list_any (same_kind kind) kinds && list_any (is_owing kind phase) children) (Some kind) others

-- the first of these kinds of which a child is missing, in the order vdev, gang, logical
abbrev pub first_owing : List ChildKind → Phase → List Child → Option ChildKind
first_owing kinds phase children =
    kind_or Vdev kinds phase children (kind_or Gang kinds phase children (kind_or Logical kinds phase children None))

-- ---- how they are kept

abbrev pub child_by : {R V : Type 0} → Kept R V → Seat → Child
child_by c seat =
    record { seat = seat_of seat; kind = c.kind; told = needs_none c.kind || is_some c.ready; ended = is_some c.done }

abbrev pub children_by : {R V : Type 0} → List (Kept R V) → List Sitting → List Child
children_by [] seats = []
children_by (c ∷ cs) [] = []
children_by (c ∷ cs) (s ∷ ss) = child_by c s.seat ∷ children_by cs ss

-- each child has its seat, and is of the kind that stands beside it
abbrev pub AreBeside : {R V : Type 0} → List (Kept R V) → List Sitting → Type 0
AreBeside [] [] = Unit {0}
AreBeside [] (s ∷ ss) = ⊥
AreBeside (c ∷ cs) [] = ⊥
AreBeside (c ∷ cs) (s ∷ ss) = (c.kind ≡ s.kind) × AreBeside cs ss

-- One that handed in its done value had handed in its ready value, if it has one to hand in.
abbrev pub ToldIfEnded : {R V : Type 0} → Kept R V → Type 0
ToldIfEnded c = is_some c.done ≡ true → needs_none c.kind || is_some c.ready ≡ true

abbrev pub AllToldIfEnded : {R V : Type 0} → List (Kept R V) → Type 0
AllToldIfEnded {R} {V} cs = AllByRecursion (ToldIfEnded {R = R} {V = V}) cs

abbrev pub IsOfKind : {R V : Type 0} → ChildKind → Option (Kept R V) → Type 0
IsOfKind kind None = ⊥
IsOfKind kind (Some c) = c.kind ≡ kind

abbrev pub HasTold : {R V : Type 0} → Option (Kept R V) → Type 0
HasTold None = ⊥
HasTold (Some c) = needs_none c.kind || is_some c.ready ≡ true

-- the child of this number, wherever it sits, is now as this makes it, and the others are as before
pub record Changes {R V : Type 0} (made : Child → Child) (n : ℕ) (old new : List (Kept R V)) : Type 0 where
  pub was : Kept R V
  pub now : Kept R V
  pub there : slice_get old n ≡ Some was
  pub is : new ≡ slice_set old n now
  pub kind : now.kind ≡ was.kind
  pub shows : (seat : Seat) → child_by now seat ≡ made (child_by was seat)
