-- What the one-thread engine keeps of a round under way: its trees, its nodes, and which of these wait for what.
use Rattle.std.specs.Prelude.{◌≡◌, ◌≢◌, ℕ, suc, List, [], ◌∷◌, ◌++◌, map, slice_get, Bool, true, false, Option, Some, None}
use Rattle.zio_types.specs.declared.request.ChildKind.{ChildKind}
use Rattle.zio_types.specs.declared.request.ChildKind.TheVariants.{Vdev, Gang, Logical}
use Rattle.zio_types.specs.Choices.{Choice}
use Rattle.zio_types.specs.Machine.{Count}
use Rattle.zio_types.specs.Places.{are_open}
use Rattle.zio_counts.specs.Tallies.{counted}
use Rattle.zio_cksum.specs.Images.{Images}
use Rattle.zio_gang.specs.Attempts.{Terms}
use Rattle.zio_gang.specs.Trees.{tree_places}
use Rattle.zio_trace.specs.Families.{Forest}
use Rattle.zio_trace.specs.Leaves.{LeafOp}
use Rattle.zio_trace.specs.Tasks.{Leaf}
use Rattle.zio_trace.specs.Underway.{State}
use Rattle.zio_frames.specs.Frames.{Child, Flying, Stack, fresh_stack, place_of}
use Rattle.zio_frames.specs.Moves.{Did, Took}
use Rattle.zio_frames.specs.Running.{IsRunning}
use Rattle.zio_frames.specs.Slots.{Heard, IsOut, Slot}
use Rattle.zio_staged.specs.Entries.{CountsAre, Held, KeysDiffer, Live, OfNode, OfTree, Parent, Shelf, flying_at, flying_of, number_in, standing, times_in, top_at}
use Rattle.zio_staged.specs.Parts.{Nodes}

-- ---- a node and its parent

-- a vdev child needs no pointer, and counts as one that told its own
abbrev pub counts_as_told : ChildKind → Bool → Bool
counts_as_told Vdev told = true
counts_as_told Gang told = told
counts_as_told Logical told = told

-- it does the operation of this child of the parent, which hasn't ended, and told its pointer exactly where the parent heard of it
pub record DoesFor (kind : ChildKind) (told : Bool) (at : List ℕ) (parent : Flying) (number : ℕ) : Type 0 where
  pub child : Child
  pub is : slice_get parent.stack.children number ≡ Some child
  pub goes : child.ended ≡ false
  pub there : at ≡ place_of parent child.seat
  pub of_kind : child.kind ≡ kind
  pub heard : child.told ≡ counts_as_told kind told

-- the parent, by trees and by keys
abbrev pub parent_in : (ℕ → Option Flying) → (ℕ → Option Flying) → Parent → Option Flying
parent_in trees nodes (OfTree n child) = trees n
parent_in trees nodes (OfNode key child) = nodes key

pub record HasParent (trees nodes : ℕ → Option Flying) (kind : ChildKind) (told : Bool) (at : List ℕ)
    (parent : Parent) : Type 0 where
  pub above : Flying
  pub is : parent_in trees nodes parent ≡ Some above
  pub for : DoesFor kind told at above (number_in parent)

-- a node is held whose parent is this one
pub record IsHeldFor {N : Type 0} (shelf : Shelf N) (parent : Parent) : Type 0 where
  pub key : ℕ
  pub held : Held N
  pub there : shelf key ≡ Some held
  pub parent_is : held.parent ≡ parent

-- each of the children that hasn't ended is held
abbrev pub ChildrenHeld : {N : Type 0} → Shelf N → (ℕ → Parent) → List Child → Type 0
ChildrenHeld {N = N} shelf parent children =
    (n : ℕ) (c : Child) → slice_get children n ≡ Some c → c.ended ≡ false → IsHeldFor {N = N} shelf (parent n)

-- ---- what a node waits for

-- By how often it stands in the queue and at the leaves: it is queued once, or its operation is at a leaf, once, or it
-- stalls on a count that isn't 0. Where it isn't at a leaf it may run.
pub data Rests {N : Type 0} (due : N → Type 0) (queued at_leaf : ℕ) (st : Stack) (h : Held N) : Type 0 where
  Queued : queued ≡ 1 → at_leaf ≡ 0 → h.tally.stall ≡ None → due h.node → Rests due queued at_leaf st h
  AtLeaf : (act : LeafOp) → queued ≡ 0 → at_leaf ≡ 1 → h.tally.stall ≡ None → st ≡ fresh_stack (Leaf act)
      → Rests due queued at_leaf st h
  Stalls : (count : Count) → queued ≡ 0 → at_leaf ≡ 0 → h.tally.stall ≡ Some count
      → (counted count.kind count.phase h.tally ≢ 0) → due h.node
      → Rests due queued at_leaf st h

-- ---- one node

pub record IsHeld {N : Type 0} (nodes : Nodes N) (t : Terms) (tops lives : ℕ → Option Flying) (shelf : Shelf N)
    (queue leaves : List ℕ)
    (key : ℕ) (x : Flying) (h : Held N) : Type 0 where
  pub is : nodes.Is t h.node x.stack
  pub parent : HasParent tops lives h.kind (nodes.told h.node) x.at h.parent
  pub children : ChildrenHeld {N = N} shelf (OfNode key) x.stack.children
  pub counts : CountsAre h.tally x.stack.children
  pub rests : Rests {N = N} nodes.due (times_in key queue) (times_in key leaves) x.stack h

-- what is in flight under a key is held there, and nothing else is there or waits
abbrev pub Matches : {N : Type 0} → Nodes N → Terms → (ℕ → Option Flying) → (ℕ → Option Flying) → Shelf N → List ℕ → List ℕ → ℕ
    → Option Flying → Option (Held N) → Type 0
Matches {N = N} nodes t tops lives shelf queue leaves key None None = (times_in key queue ≡ 0) × (times_in key leaves ≡ 0)
Matches {N = N} nodes t tops lives shelf queue leaves key None (Some h) = ⊥
Matches {N = N} nodes t tops lives shelf queue leaves key (Some x) None = ⊥
Matches {N = N} nodes t tops lives shelf queue leaves key (Some x)
    (Some h) = IsHeld {N = N} nodes t tops lives shelf queue leaves key x h

-- ---- what it does itself

-- whether places were free is answered as it is
abbrev pub IsRight : Terms → Did → Type 0
IsRight t (Took tree free) = free ≡ are_open t.used (tree_places tree)
IsRight t _ = Unit {0}

-- ---- all of it

-- the nodes under their keys, those below the trees too
pub record AreLinked {N : Type 0} (nodes : Nodes N) (t : Terms) (tops lives : ℕ → Option Flying) (shelf : Shelf N)
    (queue leaves : List ℕ) : Type 0 where
  pub each : (key : ℕ) → Matches {N = N} nodes t tops lives shelf queue leaves key (lives key) (shelf key)
  pub trees : (n : ℕ) (top : Flying) → tops n ≡ Some top → ChildrenHeld {N = N} shelf (OfTree n) top.stack.children
  pub apart : (k m : ℕ) (h g : Held N) → shelf k ≡ Some h → shelf m ≡ Some g → h.parent ≡ g.parent → k ≡ m

-- a tree is under way until it has its value
abbrev pub TreesStand : ℕ → List (Option Flying) → List Slot → Type 0
TreesStand n [] [] = Unit {0}
TreesStand n (Some top ∷ tops) (IsOut told ∷ trees) = (top.at ≡ n ∷ []) × TreesStand (suc n) tops trees
TreesStand n (None ∷ tops) (Heard v ∷ trees) = TreesStand (suc n) tops trees
TreesStand n _ _ = ⊥

-- The images before, where they are told, the trees, as far as each is settled, and the nodes: each is under its key, and no other is there; what is queued or at a
-- leaf is a node's; and the round is running with all of them.
pub record IsKept {N : Type 0} (nodes : Nodes N) (t : Terms) (sizes : ℕ → ℕ) (f : Forest) (before : Option Images) (trees : List Slot)
    (tops : List (Option Flying)) (lives : List Live) (shelf : Shelf N) (queue leaves : List ℕ) (s : State) : Type 0 where
  pub running : IsRunning t sizes f before trees (standing tops ++ map flying_of lives) s
  pub stand : TreesStand 0 tops trees
  pub differ : KeysDiffer lives
  pub linked : AreLinked {N = N} nodes t (top_at tops) (flying_at lives) shelf queue leaves

-- it is kept in some state with these entries and images
pub record StillKept {N : Type 0} (nodes : Nodes N) (t : Terms) (sizes : ℕ → ℕ) (f : Forest) (before : Option Images)
    (trees : List Slot)
    (tops : List (Option Flying)) (lives : List Live) (shelf : Shelf N) (queue leaves : List ℕ) (entries : List Choice)
    (images : Images) : Type 0 where
  pub state : State
  pub kept : IsKept {N = N} nodes t sizes f before trees tops lives shelf queue leaves state
  pub entries_are : state.entries ≡ entries
  pub images_are : state.images ≡ images
