-- The request machine: what a request keeps of its children, and how they wake it.
use Rattle.std.specs.Prelude.{ℕ, zero, suc, ◌+◌, List, [], ◌∷◌, ◌++◌, Bool, true, false, ◌&&◌, not, Option, Some, None, ◌==◌}
use Rattle.std.specs.List.{list_any}
use Rattle.zio_types.specs.declared.error.Errno.{Errno}
use Rattle.zio_types.specs.declared.request.Bits.{Bits}
use Rattle.zio_types.specs.declared.request.ChildKind.{ChildKind}
use Rattle.zio_types.specs.declared.request.ChildKind.TheVariants.{Vdev, Gang, Logical}
use Rattle.zio_types.specs.declared.request.Phase.{Phase}
use Rattle.zio_types.specs.declared.request.Phase.TheVariants.{Ready, Done}
use Rattle.zio_types.specs.Bits.{no_bits, joined_bits, has_bits}
use Rattle.zio_types.specs.Errors.{worst_error}

-- ---- children

-- a child, and how far it has come
pub record Child : Type 0 where
  pub kind : ChildKind
  pub ready : Bool
  pub done : Bool

-- the kind is that of places, leaf operations and repairs
abbrev pub is_vdev : ChildKind → Bool
is_vdev Vdev = true
is_vdev Gang = false
is_vdev Logical = false

-- a child as it is added: a vdev child is ready then
-- Rule: child counts.
abbrev pub new_child : ChildKind → Child
new_child kind = record { kind = kind; ready = is_vdev kind; done = false }

-- both kinds are one
abbrev pub same_kind : ChildKind → ChildKind → Bool
same_kind Vdev Vdev = true
same_kind Vdev Gang = false
same_kind Vdev Logical = false
same_kind Gang Vdev = false
same_kind Gang Gang = true
same_kind Gang Logical = false
same_kind Logical Vdev = false
same_kind Logical Gang = false
same_kind Logical Logical = true

-- both phases are one
abbrev pub same_phase : Phase → Phase → Bool
same_phase Ready Ready = true
same_phase Ready Done = false
same_phase Done Ready = false
same_phase Done Done = true

-- the child hasn't the mark of the phase
abbrev pub lacks : Phase → Child → Bool
lacks Ready child = not child.ready
lacks Done child = not child.done

-- the child is of the kind, and hasn't the mark of the phase
-- Rule: child counts.
abbrev pub owes : ChildKind → Phase → Child → Bool
owes kind phase child = same_kind child.kind kind && lacks phase child

-- the child of this number exists, is of the kind, and hasn't the mark of the phase
abbrev pub owes_at : ChildKind → Phase → ℕ → List Child → Bool
owes_at kind phase n [] = false
owes_at kind phase zero (child ∷ children) = owes kind phase child
owes_at kind phase (suc n) (child ∷ children) = owes_at kind phase n children

-- 1 where the test holds, else 0
abbrev pub one_if : Bool → ℕ
one_if true = 1
one_if false = 0

-- how many children of the kind haven't the mark of the phase
-- Rule: child counts.
abbrev pub count_of : ChildKind → Phase → List Child → ℕ
count_of kind phase [] = 0
count_of kind phase (child ∷ children) = one_if (owes kind phase child) + count_of kind phase children

-- the child with the mark of the phase
abbrev pub marked : Phase → Child → Child
marked Ready child = record child { ready = true }
marked Done child = record child { done = true }

-- the children, where the one of this number has the mark of the phase
abbrev pub marked_at : Phase → ℕ → List Child → List Child
marked_at phase n [] = []
marked_at phase zero (child ∷ children) = marked phase child ∷ children
marked_at phase (suc n) (child ∷ children) = child ∷ marked_at phase n children

-- ---- the state

-- a count: that of the children of a kind that haven't the mark of a phase
pub record Count : Type 0 where
  pub kind : ChildKind
  pub phase : Phase

-- one of something for each kind of child
pub record PerKind (X : Type 0) : Type 0 where
  pub vdev : X
  pub gang : X
  pub logical : X

-- that of a kind
abbrev pub of_kind : {X : Type 0} → ChildKind → PerKind X → X
of_kind Vdev each = each.vdev
of_kind Gang each = each.gang
of_kind Logical each = each.logical

-- that of a kind by another
abbrev pub with_kind : {X : Type 0} → ChildKind → X → PerKind X → PerKind X
with_kind Vdev x each = record each { vdev = x }
with_kind Gang x each = record each { gang = x }
with_kind Logical x each = record each { logical = x }

-- the children by number, the count on which the request stalls, the worst error of the children of each kind, and the
-- bits of all
pub record Machine : Type 0 where
  pub children : List Child
  pub stall : Option Count
  pub errors : PerKind (Option Errno)
  pub bits : Bits

-- a request without children
abbrev pub fresh : Machine
fresh = record {
  children = [];
  stall = None;
  errors = record { vdev = None; gang = None; logical = None };
  bits = no_bits;
}

-- ---- what happens to it

-- one event; a child is named by its kind and its number
pub data CountEvent : Type 0 where
  Added : ChildKind → CountEvent
  BecameReady : ChildKind → ℕ → CountEvent
  BecameDone : ChildKind → ℕ → Option Errno → Bits → CountEvent
  Waited : ChildKind → Phase → CountEvent

-- a child becomes ready once, and done once
abbrev pub may_happen : CountEvent → Machine → Bool
may_happen (Added kind) m = true
may_happen (BecameReady kind n) m = owes_at kind Ready n m.children
may_happen (BecameDone kind n error bits) m = owes_at kind Done n m.children
may_happen (Waited kind phase) m = true

-- what a child that is done hands to its parent as its error: one that goes again keeps it
abbrev pub error_unless : Bool → Option Errno → Option Errno
error_unless true error = None
error_unless false error = error

-- the worst of the errors of a kind so far and a child's
-- Rule: error joining.
abbrev pub joined_errors : ChildKind → Option Errno → PerKind (Option Errno) → PerKind (Option Errno)
joined_errors kind error errors = with_kind kind (worst_error (of_kind kind errors) error) errors

-- the request stalls on the count, unless that is 0
abbrev pub stalled_unless : Bool → Count → Machine → Machine
stalled_unless true count m = m
stalled_unless false count m = record m { stall = Some count }

-- what an event does beside the wake; a wait stalls where the count isn't 0
-- Rule: child completion.
abbrev pub happened : CountEvent → Machine → Machine
happened (Added kind) m = record m { children = m.children ++ new_child kind ∷ [] }
happened (BecameReady kind n) m = record m { children = marked_at Ready n m.children }
happened (BecameDone kind n error bits) m = record {
  children = marked_at Done n m.children;
  stall = m.stall;
  errors = joined_errors kind (error_unless (has_bits bits) error) m.errors;
  bits = joined_bits m.bits bits;
}
happened (Waited kind phase) m =
    stalled_unless (count_of kind phase m.children == 0) (record { kind = kind; phase = phase }) m

-- the count is that of this kind and phase
abbrev pub is_count : ChildKind → Phase → Count → Bool
is_count kind phase count = same_kind count.kind kind && same_phase count.phase phase

-- the stall is that of this kind and phase
abbrev pub is_stall : ChildKind → Phase → Option Count → Bool
is_stall kind phase None = false
is_stall kind phase (Some count) = is_count kind phase count

-- the request stalls on a count that is 0
abbrev pub is_over : ChildKind → Phase → Machine → Bool
is_over kind phase m = is_stall kind phase m.stall && (count_of kind phase m.children == 0)

-- the event brings the count to 0 on which the request stalls: the wake comes with it
-- Rule: child completion.
abbrev pub wakes : CountEvent → Machine → Bool
wakes (Added kind) m = false
wakes (BecameReady kind n) m = is_over kind Ready (happened (BecameReady kind n) m)
wakes (BecameDone kind n error bits) m = is_over kind Done (happened (BecameDone kind n error bits) m)
wakes (Waited kind phase) m = false

-- a wake clears the stall
abbrev pub woken_if : Bool → Machine → Machine
woken_if true m = record m { stall = None }
woken_if false m = m

-- the state after an event, and the wake if it comes with it
abbrev pub after : CountEvent → Machine → Machine
after event m = woken_if (wakes event m) (happened event m)

-- a stall whose count isn't 0, or none
abbrev pub is_open : List Child → Option Count → Bool
is_open children None = true
is_open children (Some count) = not (count_of count.kind count.phase children == 0)

-- what the request stalls on isn't 0 yet: a child is still to come that wakes it
abbrev pub stall_is_open : Machine → Bool
stall_is_open m = is_open m.children m.stall

-- ---- a wait for several kinds

-- this count where the test says so, else another
abbrev pub first_if : Bool → Count → Option Count → Option Count
first_if true count others = Some count
first_if false count others = others

-- the count of a kind if it is asked for and isn't 0, else another
abbrev pub count_or : ChildKind → List ChildKind → Phase → List Child → Option Count → Option Count
count_or kind kinds phase children others =
    first_if (list_any (same_kind kind) kinds && not (count_of kind phase children == 0))
    (record { kind = kind; phase = phase }) others

-- the first count of these kinds that isn't 0, in the order vdev, gang, logical
-- Rule: wait order.
abbrev pub first_count : List ChildKind → Phase → List Child → Option Count
first_count kinds phase children =
    count_or Vdev kinds phase children (count_or Gang kinds phase children (count_or Logical kinds phase children None))

-- a wait on this count, or none
abbrev pub waited_on : Option Count → Machine → Machine
waited_on None m = m
waited_on (Some count) m = after (Waited count.kind count.phase) m

-- a wait for the children of these kinds stalls on the first count that isn't 0, if there is one
-- Rule: wait order.
abbrev pub after_wait : List ChildKind → Phase → Machine → Machine
after_wait kinds phase m = waited_on (first_count kinds phase m.children) m
