-- What is left of a round's trees: whatever stands under a request is left under it, or finished.
use Rattle.std.specs.Prelude.{◌≡◌, ℕ, List, [], ◌∷◌, ◌++◌, map, Some, Contains}
use Rattle.zio_gang.specs.Attempts.{Ended, Pending}
use Rattle.zio_trace.specs.Families.{Forest, NoTrees, TreeOf, flat}
use Rattle.zio_trace.specs.Tasks.{Attempt, One, Settle, Task, Value, attempted}
use Rattle.zio_children.specs.RequestKids.{root_numbers}
use Rattle.zio_frames.specs.Frames.{Stack}
use Rattle.zio_frames.specs.Slots.{Heard, IsOut, Slot}

abbrev pub numbers_ended : List Ended → List ℕ
numbers_ended ended = map (λ (e : Ended). e.request.number) ended

-- each request of the round that stands under the one of this number has one of these
abbrev pub ChildrenAmong : Forest → ℕ → List ℕ → Type 0
ChildrenAmong f n numbers = (q : Pending) → Contains (flat f) q → q.request.under ≡ Some n → Contains numbers q.request.number

-- those that stand under a request of these trees are the roots of the trees under it, or finished
abbrev pub HaveRests : Forest → List ℕ → Forest → Type 0
HaveRests f ended NoTrees = Unit {0}
HaveRests f ended (TreeOf p kids others) =
    ChildrenAmong f p.request.number (root_numbers kids ++ ended) × HaveRests f ended kids × HaveRests f ended others

-- so it is in the tree that the operation attempts
abbrev pub HasRestsIn : Forest → List ℕ → Task → Type 0
HasRestsIn f ended (Attempt attempt p kids) = HaveRests f ended (TreeOf p kids NoTrees)
HasRestsIn f ended (Settle p kids) = HaveRests f ended (TreeOf p kids NoTrees)
HasRestsIn f ended _ = Unit {0}

-- So it is in what an attempt of this request left, and the request is left or finished; where none goes again nothing is left.
pub record HasLeftRests (f : Forest) (ended : List ℕ) (n : ℕ) (one : One) : Type 0 where
  pub rests : HaveRests f ended one.left
  pub itself : Contains (root_numbers one.left ++ ended) n
  pub none : one.again ≡ [] → one.left ≡ NoTrees

abbrev pub LeavesRests : Forest → List ℕ → Task → Value → Type 0
LeavesRests f ended (Attempt attempt p kids) v = HasLeftRests f ended p.request.number (attempted v)
LeavesRests f ended _ v = Unit {0}

abbrev pub SlotRests : Forest → List ℕ → Task → Slot → Type 0
SlotRests f ended op (Heard v) = LeavesRests f ended op v
SlotRests f ended op (IsOut told) = Unit {0}

abbrev pub SlotsRest : Forest → List ℕ → List Task → List Slot → Type 0
SlotsRest f ended [] slots = Unit {0}
SlotsRest f ended (op ∷ asked) [] = Unit {0}
SlotsRest f ended (op ∷ asked) (slot ∷ slots) = SlotRests f ended op slot × SlotsRest f ended asked slots

-- so it is in a node's own part, and in what it heard
pub record HasRests (f : Forest) (ended : List ℕ) (st : Stack) : Type 0 where
  pub own : HasRestsIn f ended st.outer.op
  pub heard : SlotsRest f ended st.outer.asked st.outer.slots
