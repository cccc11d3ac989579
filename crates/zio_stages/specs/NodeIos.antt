-- A node that reads or writes a block's copies, as its own part or as the part within that, and its children on leaves.
use Rattle.std.specs.Prelude.{◌≡◌, ℕ, ◌+◌, List, [], ◌∷◌, ◌++◌, slice_get, false, Option, Some, None, ◌⊎◌}
use Rattle.zio_types.specs.declared.place.Top.{Top}
use Rattle.zio_types.specs.declared.request.ChildKind.TheVariants.{Vdev}
use Rattle.zio_gang.specs.Attempts.{Terms}
use Rattle.zio_trace.specs.Leaves.{LeafOp}
use Rattle.zio_trace.specs.Tasks.{Leaf}
use Rattle.zio_frames.specs.Frames.{Child, Inner, Stack, asking, fresh_frame}
use Rattle.zio_frames.specs.Moves.{AsksNext, handed}
use Rattle.zio_stages.specs.LeafWorks.{IsLeafWork}
use Rattle.zio_stages.specs.NodeChildren.{layer_seat, new_child}
use Rattle.zio_stages.specs.ReadIos.{IsReadIo, IsReadStep}
use Rattle.zio_stages.specs.WriteIos.{IsWriteIo, IsWriteStep}
use Rattle.zio_stages.specs.declared.family.Layer.{Layer}
use Rattle.zio_stages.specs.declared.family.Layer.TheVariants.{Own, Within}
use Rattle.zio_stages.specs.declared.leaf.LeafWork.{LeafWork}
use Rattle.zio_stages.specs.declared.read_io.ReadIo.{ReadIo}
use Rattle.zio_stages.specs.declared.write_io.IoStep.TheVariants.{End, Retry}
use Rattle.zio_stages.specs.declared.write_io.WriteIo.{WriteIo}

-- ---- its children

-- each child of this part that hasn't ended does an operation of which this holds
abbrev pub SitOn : Layer → (ℕ → Type 0) → List Child → Type 0
SitOn layer IsNow family = (k n : ℕ) (c : Child) → slice_get family k ≡ Some c → c.ended ≡ false → c.seat ≡ layer_seat layer n → IsNow n

-- no two of them do one
abbrev pub SitApartIn : Layer → List Child → Type 0
SitApartIn layer family =
    (k m n : ℕ) (c d : Child) → slice_get family k ≡ Some c → slice_get family m ≡ Some d → c.ended ≡ false → d.ended ≡ false
    → c.seat ≡ layer_seat layer n → d.seat ≡ layer_seat layer n → k ≡ m

-- none of them is out
abbrev pub NoneSits : Layer → List Child → Type 0
NoneSits layer family = SitOn layer (λ n. ⊥) family

-- this child of the part hasn't ended
pub record IsAwaitedAt (layer : Layer) (family : List Child) (k : ℕ) : Type 0 where
  pub number : ℕ
  pub child : Child
  pub is : slice_get family k ≡ Some child
  pub seat : child.seat ≡ layer_seat layer number
  pub goes : child.ended ≡ false

-- those that haven't ended do what is out, each something else
pub record SitsOn (layer : Layer) (IsOutNow : ℕ → Type 0) (family : List Child) : Type 0 where
  pub outs : SitOn layer IsOutNow family
  pub apart : SitApartIn layer family

-- ---- as a node's part

-- this part of the node asks
abbrev pub IsAsking : Layer → Option Inner → Type 0
IsAsking Own None = Unit {0}
IsAsking Own (Some i) = ⊥
IsAsking Within None = ⊥
IsAsking Within (Some i) = Unit {0}

-- The part of the node that asks is this read, and these are the node's children.
pub record IsReadAt (t : Terms) (layer : Layer) (w : ReadIo) (family : List Child) (st : Stack) : Type 0 where
  pub children : family ≡ st.children
  pub asks : IsAsking layer st.inner
  pub part : IsReadIo t w (asking st)

-- It is this write of these bytes.
pub record IsWriteAt (t : Terms) (bytes : List ℕ) (layer : Layer) (w : WriteIo) (family : List Child) (st : Stack) : Type 0 where
  pub children : family ≡ st.children
  pub asks : IsAsking layer st.inner
  pub part : IsWriteIo t bytes w (asking st)

-- ---- what is handed out

-- one more child, if any
abbrev pub with_leaf : Layer → ℕ → Option LeafWork → List Child → List Child
with_leaf layer n None family = family
with_leaf layer n (Some child) family = family ++ new_child (layer_seat layer n) Vdev ∷ []

-- that many operations, with this one if there is one
abbrev pub with_one : Option LeafWork → ℕ → ℕ
with_one None n = n
with_one (Some child) n = n + 1

-- the child does what the node asks next, and behind that this holds of the node
pub record HandsLeaf (t : Terms) (st : Stack) (child : LeafWork) (IsAfter : Stack → Type 0) : Type 0 where
  pub act : LeafOp
  pub next : AsksNext t (asking st) (Leaf act)
  pub child_is : IsLeafWork t child (fresh_frame (Leaf act))
  pub after : IsAfter (handed st (Leaf act))

-- if there is one
abbrev pub StartsBy : Terms → Stack → Option LeafWork → (Stack → Type 0) → Type 0
StartsBy t st None IsAfter = IsAfter st
StartsBy t st (Some child) IsAfter = HandsLeaf t st child IsAfter

-- ---- how far it is

-- nothing is out of it, and nothing can be handed out in this pass
abbrev pub IsReadDue : List Top → ReadIo → Type 0
IsReadDue tops w = IsReadStep tops w Retry ⊎ IsReadStep tops w End

abbrev pub IsWriteDue : List Top → WriteIo → Type 0
IsWriteDue tops w = IsWriteStep tops w Retry ⊎ IsWriteStep tops w End
