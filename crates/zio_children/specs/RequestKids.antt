-- The children of a request in an attempt: which of its plan's first operations they are, what their parent knows of each,
-- and what comes of that for its own work.
use Rattle.std.specs.Prelude.{◌≡◌, ◌≢◌, ℕ, zero, suc, ◌+◌, ◌<◌, ◌≤◌, List, [], ◌∷◌, length, map, reverse, Bool, true, false, Option, Some, None, cond}
use Rattle.std.specs.List.{AllByRecursion}
use Rattle.zio_types.specs.declared.error.Errno.{Errno}
use Rattle.zio_types.specs.declared.request.Bits.{Bits}
use Rattle.zio_blkptr.specs.declared.pointer.Bp.{Bp}
use Rattle.zio_gang.specs.Attempts.{Child, Pending, Return, children_of, finished_of, has_bits, insert_children, no_bits}
use Rattle.zio_trace.specs.Families.{Forest, NoTrees, TreeOf}
use Rattle.zio_trace.specs.Plans.{Kids, TaskPlan, add_kid, plan_kids}
use Rattle.zio_trace.specs.Programs.{◌>>=◌}
use Rattle.zio_trace.specs.Tasks.{Attempt, AttemptedBy, One, Value, attempted}
use Rattle.zio_frames.specs.Slots.{AsksBehindSlots, Heard, IsOut, Slot}
use Rattle.zio_children.specs.declared.kept.KeptChild.{KeptChild}
use Rattle.zio_children.specs.declared.kids.Kid.{Kid}
use Rattle.zio_children.specs.declared.kids.KidState.{KidState}
use Rattle.zio_children.specs.declared.kids.KidState.TheVariants.{Due, Out, Told, Ended}
use Rattle.zio_children.specs.declared.kids.KidStep.{KidStep}
use Rattle.zio_children.specs.declared.kids.KidStep.TheVariants.{Child as ChildStep, AllOut}

-- The children that haven't finished, by number; how many of them were handed out; and those that finished in earlier
-- attempts.
pub record KidsUnderWay : Type 0 where
  pub kids : List Kid
  pub handed : ℕ
  pub kept : List KeptChild

-- ---- one child

abbrev pub bits_by : KidState → Bits
bits_by (Ended bits error pointer) = bits
bits_by _ = no_bits

abbrev pub error_by : KidState → Option Errno
error_by (Ended bits error pointer) = error
error_by _ = None

-- the pointer that it told or has
abbrev pub pointer_by : KidState → Option Bp
pointer_by (Told pointer) = pointer
pointer_by (Ended bits error pointer) = pointer
pointer_by _ = None

abbrev pub has_told : KidState → Bool
has_told Due = false
has_told Out = false
has_told (Told pointer) = true
has_told (Ended bits error pointer) = true

abbrev pub has_ended : KidState → Bool
has_ended Due = false
has_ended Out = false
has_ended (Told pointer) = false
has_ended (Ended bits error pointer) = true

abbrev pub is_told : Kid → Bool
is_told k = has_told k.state

abbrev pub is_ended : Kid → Bool
is_ended k = has_ended k.state

-- it is out, and what it told, if anything, is this
abbrev pub IsOutWith : Option Bp → Option KidState → Type 0
IsOutWith pointer (Some Out) = Unit {0}
IsOutWith pointer (Some (Told told)) = told ≡ pointer
IsOutWith pointer _ = ⊥

abbrev pub child_of : KeptChild → Child
child_of k = record { number = k.number; error = k.error; pointer = k.pointer }

abbrev pub kept_as : Kid → KeptChild
kept_as k = record { number = k.number; error = error_by k.state; pointer = pointer_by k.state }

-- its error, if it doesn't go again
abbrev pub done_error : Kid → Option Errno
done_error k = cond (has_bits (bits_by k.state)) None (error_by k.state)

-- what it hands on, as far as is known
abbrev pub return_by : Kid → Return
return_by k = record { under = None; bits = bits_by k.state; child = child_of (kept_as k) }

-- ---- all of them

abbrev pub numbers_of : List Kid → List ℕ
numbers_of kids = map (λ (k : Kid). k.number) kids

-- each number is below the next
abbrev pub RiseFrom : ℕ → List ℕ → Type 0
RiseFrom least [] = Unit {0}
RiseFrom least (n ∷ ns) = (least ≤ n) × RiseFrom (n + 1) ns

abbrev pub state_at : List Kid → ℕ → Option KidState
state_at [] n = None
state_at (k ∷ kids) zero = Some k.state
state_at (k ∷ kids) (suc n) = state_at kids n

abbrev pub with_state : Kid → KidState → Kid
with_state k state = record { number = k.number; state = state }

-- the nth is so far now
abbrev pub state_set : List Kid → ℕ → KidState → List Kid
state_set [] n state = []
state_set (k ∷ kids) zero state = with_state k state ∷ kids
state_set (k ∷ kids) (suc n) state = k ∷ state_set kids n state

abbrev pub IsDue : Kid → Type 0
IsDue k = k.state ≡ Due

-- these were handed out, and no others
abbrev pub AreHanded : ℕ → List Kid → Type 0
AreHanded zero kids = AllByRecursion IsDue kids
AreHanded (suc n) [] = ⊥
AreHanded (suc n) (k ∷ kids) = (k.state ≢ Due) × AreHanded n kids

-- of how many this holds
abbrev pub how_many : (KidState → Bool) → List Kid → ℕ
how_many p [] = 0
how_many p (k ∷ kids) = cond (p k.state) 1 0 + how_many p kids

-- What the fields owe: who was handed out, and how many told their pointers and ended.
pub record KidsFields (kids : List Kid) (handed told ended : ℕ) : Type 0 where
  pub are_handed : AreHanded handed kids
  pub count_told : told ≡ how_many has_told kids
  pub count_ended : ended ≡ how_many has_ended kids
  pub rising : RiseFrom 0 (numbers_of kids)

-- ---- calls

-- nothing is asked for them
abbrev pub due_kids : List ℕ → List Kid
due_kids numbers = map (λ n. record { number = n; state = Due }) numbers

abbrev pub fresh_kids : List ℕ → List KeptChild → KidsUnderWay
fresh_kids numbers kept = record { kids = due_kids numbers; handed = 0; kept = kept }

-- the next is out
abbrev pub kid_handed : KidsUnderWay → KidsUnderWay
kid_handed x = record { kids = state_set x.kids x.handed Out; handed = x.handed + 1; kept = x.kept }

-- the nth told, or ended
abbrev pub kid_is : KidsUnderWay → ℕ → KidState → KidsUnderWay
kid_is x n state = record { kids = state_set x.kids n state; handed = x.handed; kept = x.kept }

-- ---- what their parent asked for them

-- what a child's attempt left, as far as its parent knows it
pub record IsLeftBy (one : One) (number : ℕ) (bits : Bits) (error : Option Errno) (pointer : Option Bp) : Type 0 where
  pub same_bits : one.return.bits ≡ bits
  pub same_child : one.return.child ≡ record { number = number; error = error; pointer = pointer }

-- the operation of a child is so far
abbrev pub FitsState : ℕ → KidState → Slot → Type 0
FitsState number Due slot = ⊥
FitsState number Out slot = slot ≡ IsOut None
FitsState number (Told pointer) slot = slot ≡ IsOut (Some pointer)
FitsState number (Ended bits error pointer) slot = (one : One) × (slot ≡ Heard (AttemptedBy one)) × IsLeftBy one number bits error pointer

abbrev pub FitKids : List Kid → List Slot → Type 0
FitKids [] [] = Unit {0}
FitKids [] (slot ∷ slots) = ⊥
FitKids (k ∷ kids) [] = IsDue k × FitKids kids []
FitKids (k ∷ kids) (slot ∷ slots) = FitsState k.number k.state slot × FitKids kids slots

-- These are the operations for its children that were asked so far, each as far as it is.
abbrev pub Fits : KidsUnderWay → List Slot → Type 0
Fits x slots = FitKids x.kids slots

-- the roots of some trees
abbrev pub root_numbers : Forest → List ℕ
root_numbers NoTrees = []
root_numbers (TreeOf p below others) = p.request.number ∷ root_numbers others

abbrev pub AreRoots : KidsUnderWay → Forest → Type 0
AreRoots x forest = root_numbers forest ≡ numbers_of x.kids

-- the plan of these children, and this behind them
abbrev pub with_kids : {A : Type 0} → ℕ → Forest → (Kids → TaskPlan A) → TaskPlan A
with_kids attempt forest f = plan_kids attempt forest >>= f

-- the nth tree of some
abbrev pub IsTreeAt : ℕ → Forest → Pending → Forest → Type 0
IsTreeAt n NoTrees p below = ⊥
IsTreeAt zero (TreeOf q kids others) p below = (q ≡ p) × (kids ≡ below)
IsTreeAt (suc n) (TreeOf q kids others) p below = IsTreeAt n others p below

-- What a step shows: whose attempt is asked next behind those that were asked, or that all were.
abbrev pub ShowsKids : KidsUnderWay → KidStep → Type 0
ShowsKids x (ChildStep n) =
    (n ≡ x.handed) × (n < length x.kids)
    × ((slots : List Slot) (attempt : ℕ) (forest : Forest) (p : Pending) (below : Forest) (f : Kids → TaskPlan Value) →
    Fits x slots → IsTreeAt n forest p below → AsksBehindSlots slots (plan_kids attempt forest >>= f) (Attempt attempt p below))
ShowsKids x AllOut = (x.handed ≡ length x.kids) × ((slots : List Slot) → Fits x slots → length slots ≡ length x.kids)

-- ---- what they hand on

-- in the order of the definitions: the last first
abbrev pub returns_in : KidsUnderWay → List Return
returns_in x = reverse (map return_by x.kids)

-- the pointers of all children by number, with those that finished earlier
abbrev pub pointers_of : KidsUnderWay → List (Option Bp)
pointers_of x = map (λ (c : Child). c.pointer) (insert_children (children_of (returns_in x)) (map child_of x.kept))

-- all children that finished, by number
abbrev pub finished_in : KidsUnderWay → List Child
finished_in x = insert_children (children_of (finished_of (returns_in x))) (map child_of x.kept)

-- a child's number and pointer alone
abbrev pub bare_child : Child → Child
bare_child c = record { number = c.number; error = None; pointer = c.pointer }

-- returns of these numbers, with these pointers
abbrev pub AreToldBy : KidsUnderWay → List Return → Type 0
AreToldBy x returns = map bare_child (children_of returns) ≡ map bare_child (children_of (returns_in x))

-- a return without the request that it goes to
abbrev pub seen_return : Return → Return
seen_return r = record { under = None; bits = r.bits; child = r.child }

-- what the attempts left of which the answers are there
abbrev pub kids_by : List Slot → Kids
kids_by [] = record { returns = []; ended = []; again = []; left = NoTrees }
kids_by (Heard v ∷ slots) = add_kid (attempted v) (kids_by slots)
kids_by (IsOut told ∷ slots) = kids_by slots
