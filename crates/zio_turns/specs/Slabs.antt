-- What an engine's slab shows of its nodes.
use Rattle.std.specs.Prelude.{◌≡◌, ℕ, ◌+◌, ◌*◌, List, length, Option, Some, None}
use Rattle.std.specs.List.{sum_by}
use Rattle.slab.specs.Slab.{Slab, get}
use Rattle.zio_frames.specs.Frames.{Flying}
use Rattle.zio_staged.specs.Entries.{Held, OfNode, OfTree, Parent, Shelf}
use Rattle.zio_turns.specs.declared.entry.TiedNode.{TiedNode}
use Rattle.zio_turns.specs.declared.entry.Parent.{Parent as Above}
use Rattle.zio_turns.specs.declared.entry.Parent.TheVariants.{Tree, Node}

abbrev pub parent_of : Above → Parent
parent_of (Tree tree child) = OfTree tree child
parent_of (Node key child) = OfNode key child

abbrev pub held_of : {N : Type 0} → TiedNode N → Held N
held_of e = record { node = e.node; kind = e.ties.kind; parent = parent_of e.ties.parent; tally = e.ties.counts }

abbrev pub held_if : {N : Type 0} → Option (TiedNode N) → Option (Held N)
held_if None = None
held_if {N = N} (Some e) = Some (held_of {N = N} e)

-- the nodes by key
abbrev pub shelf_of : {N : Type 0} → Slab (TiedNode N) → Shelf N
shelf_of {N = N} slab key = held_if {N = N} (get slab key)

-- it keeps how many children each node handed out
abbrev pub AreNumbered : {N : Type 0} → Slab (TiedNode N) → (ℕ → Option Flying) → Type 0
AreNumbered {N = N} slab lives = (key : ℕ) (e : TiedNode N) (x : Flying) → get slab key ≡ Some e → lives key ≡ Some x →
    e.ties.children ≡ length x.stack.children

-- this holds of each node
abbrev pub AreAll : {N : Type 0} → (N → Type 0) → Slab (TiedNode N) → Type 0
AreAll {N = N} P slab = (key : ℕ) (e : TiedNode N) → get slab key ≡ Some e → P e.node

-- ---- how often they run

abbrev pub left_in : {N : Type 0} → (N → ℕ) → Option (TiedNode N) → ℕ
left_in left None = 0
left_in left (Some e) = left e.node

-- over all nodes
abbrev pub left_over : {N : Type 0} → (N → ℕ) → Slab (TiedNode N) → ℕ
left_over {N = N} left slab = sum_by (left_in {N = N} left) slab.slots

-- what they and the keys in the queue have to run still
abbrev pub load : {N : Type 0} → (N → ℕ) → Slab (TiedNode N) → List ℕ → ℕ
load {N = N} left slab line = 3 * left_over {N = N} left slab + length line
