-- The children of a request in an attempt with their trees: those that are due, and what is left of those that go again.
use Rattle.std.specs.Prelude.{◌≡◌, ℕ, zero, suc, List, [], ◌∷◌, ◌++◌, length, take, drop, Option, Some, None, is_some}
use Rattle.std.specs.List.{AllByRecursion}
use Rattle.zio_gang.specs.Attempts.{Child, Pending, has_bits}
use Rattle.zio_trace.specs.Families.{Forest, NoTrees, TreeOf}
use Rattle.zio_trace.specs.Plans.{Kids, TaskPlan, plan_kids}
use Rattle.zio_trace.specs.Programs.{◌>>=◌}
use Rattle.zio_trace.specs.Tasks.{Attempt, AttemptedBy, One, Task, Value}
use Rattle.zio_children.specs.RequestKids.{AreRoots, Fits, IsTreeAt, KidsUnderWay, RiseFrom, numbers_of}
use Rattle.zio_frames.specs.Slots.{AsksBehindSlots, Heard, IsOut, Slot}
use Rattle.zio_exchange.specs.declared.waiting.UnfinishedRequest.{UnfinishedRequest}
use Rattle.zio_exchange.specs.Wholes.{AreTrees, IsLeft, IsTreeOf, IsWhole, root_number, roots_in}

-- The children; the trees of those that weren't handed out, by number; and by place what is left of each that goes again.
pub record KidsHeld : Type 0 where
  pub kids : KidsUnderWay
  pub due : List (List UnfinishedRequest)
  pub again : List (Option (List UnfinishedRequest))

-- ---- what they owe

-- what is left of a child is a tree over a request of its number
abbrev pub IsNumbered : ℕ → Option (List UnfinishedRequest) → Type 0
IsNumbered n None = Unit {0}
IsNumbered n (Some ws) = (root_number ws ≡ Some n) × IsWhole ws

abbrev pub AreNumbered : List ℕ → List (Option (List UnfinishedRequest)) → Type 0
AreNumbered [] [] = Unit {0}
AreNumbered [] (a ∷ again) = ⊥
AreNumbered (n ∷ ns) [] = ⊥
AreNumbered (n ∷ ns) (a ∷ again) = IsNumbered n a × AreNumbered ns again

-- Each tree is that of the child at its place.
pub record AreHeld (x : KidsHeld) : Type 0 where
  pub due : roots_in x.due ≡ drop x.kids.handed (numbers_of x.kids.kids)
  pub each : AllByRecursion IsWhole x.due
  pub again : AreNumbered (numbers_of x.kids.kids) x.again
  pub rising : RiseFrom 0 (numbers_of x.kids.kids)

-- what is left of those that go again, by number
abbrev pub trees_left : List (Option (List UnfinishedRequest)) → List (List UnfinishedRequest)
trees_left [] = []
trees_left (None ∷ again) = trees_left again
trees_left (Some ws ∷ again) = ws ∷ trees_left again

-- ---- what their parent asked for them

-- the attempts of some trees
abbrev pub attempts_of : ℕ → Forest → List Task
attempts_of attempt NoTrees = []
attempts_of attempt (TreeOf p below others) = Attempt attempt p below ∷ attempts_of attempt others

-- those behind the first so many
abbrev pub trees_from : ℕ → Forest → Forest
trees_from zero f = f
trees_from (suc n) NoTrees = NoTrees
trees_from (suc n) (TreeOf p below others) = trees_from n others

-- what an attempt left of one that goes again, and of one that doesn't nothing
abbrev pub IsLeftIf : Option (List UnfinishedRequest) → One → Type 0
IsLeftIf None one = (one.again ≡ []) × (one.left ≡ NoTrees)
IsLeftIf (Some ws) one = IsLeft ws one

abbrev pub IsLeftIn : Option (List UnfinishedRequest) → Slot → Type 0
IsLeftIn a (IsOut told) = a ≡ None
IsLeftIn a (Heard (AttemptedBy one)) = (has_bits one.return.bits ≡ is_some a) × IsLeftIf a one
IsLeftIn a (Heard _) = ⊥

-- what each child that was heard of left, and no other left anything
abbrev pub AreLeft : List (Option (List UnfinishedRequest)) → List Slot → Type 0
AreLeft [] [] = Unit {0}
AreLeft [] (slot ∷ slots) = ⊥
AreLeft (a ∷ again) [] = (a ≡ None) × AreLeft again []
AreLeft (a ∷ again) (slot ∷ slots) = IsLeftIn a slot × AreLeft again slots

-- These are the operations for the children's trees that were asked so far, the first so many of this forest's attempts,
-- and each is as far as it is.
pub record IsKids (x : KidsHeld) (attempt : ℕ) (forest : Forest) (asked : List Task) (slots : List Slot) : Type 0 where
  pub fits : Fits x.kids slots
  pub roots : AreRoots x.kids forest
  pub all : length slots ≡ x.kids.handed
  pub ops : asked ≡ take x.kids.handed (attempts_of attempt forest)
  pub due : AreTrees x.due (trees_from x.kids.handed forest)
  pub left : AreLeft x.again slots

-- The attempt of the tree that is handed out is asked next, whatever is asked behind the children; then it is out.
pub record HandsOut (ws : List UnfinishedRequest) (x y : KidsHeld) (attempt : ℕ) (forest : Forest) (asked : List Task)
    (slots : List Slot) : Type 0 where
  pub root : Pending
  pub below : Forest
  pub tree : IsTreeOf ws root below
  pub place : IsTreeAt x.kids.handed forest root below
  pub asks : (f : Kids → TaskPlan Value) → AsksBehindSlots slots (plan_kids attempt forest >>= f) (Attempt attempt root below)
  pub after : IsKids y attempt forest (asked ++ Attempt attempt root below ∷ []) (slots ++ IsOut None ∷ [])

-- the request with the children that finished
abbrev pub with_kept : Pending → List Child → Pending
with_kept p kept = record { request = p.request; birth = p.birth; block = p.block; kept = kept }
