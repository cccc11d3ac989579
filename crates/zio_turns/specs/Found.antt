-- What is found of an engine's nodes by their keys.
use Rattle.std.specs.Prelude.{◌≡◌, ℕ, List, ◌∷◌, slice_get, false, Option, Some}
use Rattle.zio_types.specs.Choices.{Choice}
use Rattle.zio_cksum.specs.Images.{Images}
use Rattle.zio_gang.specs.Attempts.{Terms}
use Rattle.zio_trace.specs.Families.{Forest}
use Rattle.zio_frames.specs.Frames.{Child, Flying, kind_of_task, place_of}
use Rattle.zio_frames.specs.Seats.{asked_at}
use Rattle.zio_frames.specs.Slots.{Slot}
use Rattle.zio_turns.specs.Engine.{StillKept, counts_as_told}
use Rattle.zio_staged.specs.Entries.{CountsAre, Held, Live, Shelf, live_of, top_at}
use Rattle.zio_staged.specs.Parts.{Nodes}

-- a node is so far, and its counts are those of its children
pub record IsSoFar {N : Type 0} (nodes : Nodes N) (t : Terms) (h : Held N) (x : Flying) : Type 0 where
  pub is : nodes.Is t h.node x.stack
  pub counts : CountsAre h.tally x.stack.children

-- the node under a key comes first
pub record IsFound {N : Type 0} (nodes : Nodes N) (t : Terms) (sizes : ℕ → ℕ) (f : Forest) (before : Option Images) (trees : List Slot)
    (tops : List (Option Flying)) (shelf : Shelf N) (queue leaves : List ℕ) (key : ℕ) (h : Held N) (entries : List Choice)
    (images : Images) : Type 0 where
  pub node : Flying
  pub others : List Live
  pub kept : StillKept {N = N} nodes t sizes f before trees tops (live_of key node ∷ others) shelf queue leaves entries images
  pub is : IsSoFar {N = N} nodes t h node

-- it does the operation of this child of the parent
pub record IsChildOf {N : Type 0} (nodes : Nodes N) (h : Held N) (at : List ℕ) (parent : Flying) (n : ℕ)
    (c : Child) : Type 0 where
  pub is : slice_get parent.stack.children n ≡ Some c
  pub goes : c.ended ≡ false
  pub there : at ≡ place_of parent c.seat
  pub of_kind : c.kind ≡ h.kind
  pub heard : c.told ≡ counts_as_told h.kind (nodes.told h.node)

-- it does the operation that was asked for that child, and is of its kind
pub record DoesAsked {N : Type 0} (h : Held N) (x parent : Flying) (c : Child) : Type 0 where
  pub asked : asked_at parent.stack c.seat ≡ Some x.stack.outer.op
  pub kind : h.kind ≡ kind_of_task x.stack.outer.op
  pub child_kind : c.kind ≡ kind_of_task x.stack.outer.op

-- and its parent comes next
pub record IsParentFound {N : Type 0} (nodes : Nodes N) (t : Terms) (sizes : ℕ → ℕ) (f : Forest) (before : Option Images)
    (trees : List Slot)
    (tops : List (Option Flying)) (shelf : Shelf N) (queue leaves : List ℕ) (key above n : ℕ) (x : Flying) (h : Held N)
    (entries : List Choice)
    (images : Images) : Type 0 where
  pub parent : Flying
  pub held : Held N
  pub child : Child
  pub others : List Live
  pub kept : StillKept {N = N} nodes t sizes f before trees tops
      (live_of key x ∷ live_of above parent ∷ others) shelf queue leaves entries images
  pub there : shelf above ≡ Some held
  pub is : IsSoFar {N = N} nodes t held parent
  pub does : IsChildOf {N = N} nodes h x.at parent n child

-- its tree
pub record IsTreeFound {N : Type 0} (nodes : Nodes N) (tops : List (Option Flying)) (tree n : ℕ) (x : Flying)
    (h : Held N) : Type 0 where
  pub top : Flying
  pub child : Child
  pub there : top_at tops tree ≡ Some top
  pub does : IsChildOf {N = N} nodes h x.at top n child
