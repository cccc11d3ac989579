-- Work of a node that stands behind other operations of its part, as a request's own behind its children: which of the
-- part's operations are its own, and what the part asks next.
use Rattle.std.specs.Prelude.{◌≡◌, ℕ, List, [], ◌∷◌, ◌++◌, length, map, slice_get, true, false, Option, Some, None}
use Rattle.std.specs.List.{AllByRecursion, list_all, list_any}
use Rattle.zio_types.specs.declared.place.Top.{Top}
use Rattle.zio_types.specs.declared.request.ChildKind.{ChildKind}
use Rattle.zio_types.specs.declared.request.Phase.{Phase}
use Rattle.zio_types.specs.Choices.{Choice}
use Rattle.zio_blkptr.specs.declared.pointer.Bp.{Bp}
use Rattle.zio_script.specs.declared.script.Work.{Work}
use Rattle.zio_script.specs.declared.script.Work.TheVariants.{Write}
use Rattle.zio_gang.specs.Attempts.{Pending, Terms}
use Rattle.zio_trace.specs.Families.{Forest}
use Rattle.zio_trace.specs.Conflicts.{is_single}
use Rattle.zio_trace.specs.Footprints.{FitsTask}
use Rattle.zio_trace.specs.Plans.{TaskPlan, plan}
use Rattle.zio_trace.specs.Tasks.{Task, Value}
use Rattle.zio_trace.specs.Underway.{early}
use Rattle.zio_children.specs.RequestKids.{KidsUnderWay, child_of, is_told}
use Rattle.zio_frames.specs.Answering.{EndsAnswered, NextAnswered}
use Rattle.zio_frames.specs.Frames.{Child, Stack, asking, kind_of_task}
use Rattle.zio_frames.specs.Moves.{AsksNext, Did, DoesAll, handed}
use Rattle.zio_frames.specs.Running.{FitsTold}
use Rattle.zio_frames.specs.Seats.{IsSeated, asked_at}
use Rattle.zio_frames.specs.Slots.{Heard, IsOut, Slot, left_behind_slots, told_in}
use Rattle.zio_exchange.specs.WithinParts.{OpensWithin}
use Rattle.zio_exchange.specs.SpaceCalls.{SpaceCall, calls_by}
use Rattle.zio_stages.specs.KidTrees.{IsKids, KidsHeld}
use Rattle.zio_stages.specs.NodeChildren.{is_awaited}
use Rattle.zio_stages.specs.PartsOut.{ArePartsOut}

-- ---- behind others

-- the node's part asked these first, of which those that are out are parts of the work, and then its own
pub record IsBehind (front_asked : List Task) (front_slots : List Slot) (asked : List Task) (slots : List Slot) (st : Stack) : Type 0 where
  pub asked_are : st.outer.asked ≡ front_asked ++ asked
  pub slots_are : st.outer.slots ≡ front_slots ++ slots
  pub full : length front_asked ≡ length front_slots
  pub parts : ArePartsOut front_asked front_slots

-- whatever this plan asks next, behind whichever of its own operations, the part asks next
abbrev pub Follows : {A : Type 0} → Terms → Task → List Slot → TaskPlan A → Type 0
Follows t part front own = (slots : List Slot) (op : Task) → NextAnswered (told_in slots) (left_behind_slots slots own) op →
    NextAnswered (told_in (front ++ slots)) (left_behind_slots (front ++ slots) (plan t part)) op

-- whatever pointer this plan's value will have, the part's will have
abbrev pub Foretells : {A : Type 0} → Terms → Task → List Slot → (A → Option Bp) → TaskPlan A → Type 0
Foretells t part front pointer_of own = (slots : List Slot) (pointer : Option Bp) →
    EndsAnswered (λ a. pointer_of a ≡ pointer) (told_in slots) (left_behind_slots slots own) →
    EndsAnswered (λ v. early v ≡ pointer) (told_in (front ++ slots)) (left_behind_slots (front ++ slots) (plan t part))

-- some of those that are out told their pointers since, and nothing else became of them
abbrev pub ToldSince : List Slot → List Slot → Type 0
ToldSince [] [] = Unit {0}
ToldSince [] (y ∷ ys) = ⊥
ToldSince (x ∷ xs) [] = ⊥
ToldSince (Heard v ∷ xs) (Heard w ∷ ys) = (v ≡ w) × ToldSince xs ys
ToldSince (Heard v ∷ xs) (IsOut told ∷ ys) = ⊥
ToldSince (IsOut out ∷ xs) (Heard w ∷ ys) = ⊥
ToldSince (IsOut None ∷ xs) (IsOut told ∷ ys) = ToldSince xs ys
ToldSince (IsOut (Some pointer) ∷ xs) (IsOut told ∷ ys) = (told ≡ Some pointer) × ToldSince xs ys

-- this plan is the part's, behind those in front
pub record GoesOnAs {A : Type 0} (t : Terms) (tops : List Top) (own : TaskPlan A) (front : List Slot) (st : Stack) : Type 0 where
  pub tops_are : t.setting.tops ≡ tops
  pub part : is_single st.outer.op ≡ false
  pub follows : Follows t st.outer.op front own

-- ---- behind a request's children

-- a request's own work may begin: a write's once each child told which pointer it will have
abbrev pub MayBegin : Work → KidsUnderWay → Type 0
MayBegin (Write name sum copies prio body) x = list_all is_told x.kids ≡ true
MayBegin _ x = Unit {0}

-- it isn't a write's, and so has no pointer
abbrev pub IsNoWrite : Work → Type 0
IsNoWrite (Write name sum copies prio body) = ⊥
IsNoWrite _ = Unit {0}

-- All children of the request were handed out, those of earlier attempts are kept, and its own work may begin.
pub record AllowsOwn (attempt : ℕ) (p : Pending) (x : KidsHeld) (forest : Forest) (asked : List Task) (slots : List Slot) : Type 0 where
  pub kids : IsKids x attempt forest asked slots
  pub all : x.kids.handed ≡ length x.kids.kids
  pub kept : p.kept ≡ map child_of x.kids.kept
  pub told : MayBegin p.request.work x.kids

-- ---- what a node's stages come to, for any kind of node

-- it did some of its part itself, and made these calls for that; then this holds of it
pub record DoesThen (t : Terms) (st : Stack) (calls : List SpaceCall) (IsAfter : Stack → Type 0) : Type 0 where
  pub dids : List Did
  pub stack : Stack
  pub does : DoesAll t dids st stack
  pub opens : AllByRecursion OpensWithin dids
  pub calls_are : calls ≡ calls_by dids
  pub after : IsAfter stack

-- what is asked next is handed to a child of this kind, of which nothing is done
pub record HandsTo (t : Terms) (kind : ChildKind) (IsChild : Task → Type 0) (IsAfter : Stack → Type 0) (st : Stack) : Type 0 where
  pub op : Task
  pub part : is_single (asking st).op ≡ false
  pub asks : AsksNext t (asking st) op
  pub of_kind : kind_of_task op ≡ kind
  pub child_is : IsChild op
  pub after : IsAfter (handed st op)

-- a child of the kind owes the phase, and hasn't ended
abbrev pub IsOwed : ChildKind → Phase → Stack → Type 0
IsOwed kind phase st = list_any (is_awaited kind phase) st.children ≡ true

-- ---- what a node hears

-- The child of this number, whose operation this is, ended with this value, which it can have, and which has the pointer that it
-- told.
pub record HearsValue (t : Terms) (tops : List Top) (st : Stack) (n : ℕ) (c : Child) (op : Task) (v : Value) : Type 0 where
  pub tops_are : t.setting.tops ≡ tops
  pub seated : IsSeated st
  pub there : slice_get st.children n ≡ Some c
  pub goes : c.ended ≡ false
  pub told : c.told ≡ true
  pub asked : asked_at st c.seat ≡ Some op
  pub fits_told : FitsTold st c v
  pub fits : (journal : List Choice) → FitsTask journal t op v
