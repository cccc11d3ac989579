-- What waits at the leaves under its keys, and what issuing a group of it comes to.
use Rattle.std.specs.Prelude.{◌≡◌, ◌≢◌, ℕ, ◌+◌, ◌<◌, ◌≤◌, List, [], ◌∷◌, ◌++◌, length, map, take, slice_index_or, Bool, true, false, cond, is_some, Contains}
use Rattle.std.specs.List.{AllByRecursion, flat_map}
use Rattle.zio_vqueue.specs.declared.op.Op.{Op}
use Rattle.zio_vqueue.specs.Queues.{eligible}
use Rattle.zio_cksum.specs.Images.{Images, Setting}
use Rattle.zio_disks.specs.Disks.{Tell}
use Rattle.zio_groups.specs.declared.waiting.Answered.{Answered}
use Rattle.zio_groups.specs.declared.waiting.QueuedOp.{QueuedOp}
use Rattle.zio_groups.specs.Issued.{AreWhole}
use Rattle.zio_groups.specs.LeafQueues.{Waits, queue_of, waiting_with}
use Rattle.zio_trace.specs.Leaves.{Fetch, LeafOp, Store, on_leaf}
use Rattle.zio_exchange.specs.LeafOps.{IsOpAt}
use Rattle.zio_staged.specs.Entries.{OneMore, times_in}
use Rattle.zio_staged.specs.Stages.{ShowsAnswer}

-- ---- keys

-- an operation under its key, which is its ticket in the leaf's queue
abbrev pub keyed : ℕ → Op → Op
keyed key op = record { ticket = key; write = op.write; at = op.at; len = op.len; prio = op.prio; flags = op.flags }

abbrev pub key_of : QueuedOp → ℕ
key_of w = w.op.ticket

abbrev pub keys_in : List QueuedOp → List ℕ
keys_in ws = map key_of ws

abbrev pub keys_of : Waits → List ℕ
keys_of q = keys_in q.waiting

-- the keys at all leaves
abbrev pub keys_at : List Waits → List ℕ
keys_at leaves = flat_map keys_of leaves

-- a queue in which nothing waits and nothing is active
abbrev pub no_waits : Waits
no_waits = record { waiting = []; active = 0 ∷ 0 ∷ 0 ∷ 0 ∷ 0 ∷ []; last = 0 }

-- what waits at a leaf
abbrev pub waiting_at : List Waits → ℕ → List QueuedOp
waiting_at leaves leaf = (slice_index_or leaves leaf no_waits).waiting

-- no group of it is active
abbrev pub IsIdle : Waits → Type 0
IsIdle q = q.active ≡ 0 ∷ 0 ∷ 0 ∷ 0 ∷ 0 ∷ []

-- no group is active, and no key waits twice
pub record AreInOrder (leaves : List Waits) : Type 0 where
  pub idle : (leaf : ℕ) → IsIdle (slice_index_or leaves leaf no_waits)
  pub once : (key : ℕ) → times_in key (keys_at leaves) ≤ 1

-- this holds of all that waits, with its leaf
abbrev pub AllWait : (ℕ → QueuedOp → Type 0) → List Waits → Type 0
AllWait P leaves = (leaf : ℕ) → AllByRecursion (P leaf) (waiting_at leaves leaf)

-- ---- leaves with a group to issue

abbrev pub has_group : Waits → Bool
has_group q = is_some (eligible (queue_of q))

-- their numbers, in order, where the first leaf has this one
abbrev pub eligible_from : ℕ → List Waits → List ℕ
eligible_from n [] = []
eligible_from n (q ∷ qs) = cond (has_group q) (n ∷ eligible_from (n + 1) qs) (eligible_from (n + 1) qs)

abbrev pub eligible_leaves : List Waits → List ℕ
eligible_leaves leaves = eligible_from 0 leaves

-- the k-th of them
abbrev pub eligible_at : List Waits → ℕ → ℕ
eligible_at leaves k = slice_index_or (eligible_leaves leaves) k 0

-- ---- an operation that is put

-- it waits there behind the others
pub record IsPut (leaf : ℕ) (w : QueuedOp) (old new : List Waits) : Type 0 where
  pub here : waiting_at new leaf ≡ waiting_at old leaf ++ w ∷ []
  pub others : (other : ℕ) → other ≢ leaf → waiting_at new other ≡ waiting_at old other
  pub count : length new ≡ length old
  pub keys : OneMore (key_of w) (keys_at old) (keys_at new)

-- as it waits: no more bytes than its range
abbrev pub put_as : ℕ → Op → List ℕ → QueuedOp
put_as key op bytes = waiting_with (keyed key op) (take op.len bytes)

-- ---- a group that is issued

-- it waits at the leaf for this operation
abbrev pub WaitsFor : ℕ → LeafOp → QueuedOp → Type 0
WaitsFor leaf (Fetch retry len spot) w = IsOpAt false retry spot (keyed 0 w.op) leaf × (len ≤ spot.span)
WaitsFor leaf (Store retry bytes spot) w = IsOpAt true retry spot (keyed 0 w.op) leaf × (w.bytes ≡ take spot.span bytes)

-- each for the operation at its place in the list
abbrev pub WaitForAll : ℕ → List LeafOp → List QueuedOp → Type 0
WaitForAll leaf [] [] = Unit {0}
WaitForAll leaf [] (w ∷ ws) = ⊥
WaitForAll leaf (act ∷ acts) [] = ⊥
WaitForAll leaf (act ∷ acts) (w ∷ ws) = WaitsFor leaf act w × WaitForAll leaf acts ws

-- the operations were done one after another, each on the images that those before it left, and the answers show what they gave
abbrev pub AreDone : Setting → List LeafOp → List Answered → Images → Images → Type 0
AreDone s [] [] images left = left ≡ images
AreDone s [] (b ∷ bs) images left = ⊥
AreDone s (act ∷ acts) [] images left = ⊥
AreDone s (act ∷ acts) (b ∷ bs) images left =
    ShowsAnswer act b.error b.bytes (on_leaf s act images).value × AreDone s acts bs (on_leaf s act images).images left

-- Some of what waited at a leaf waits no more, and was answered under its keys: for images that the disks told, as these
-- operations do one after another, and the disks tell what that leaves. All else waits as before.
pub record AreIssued {D : Type 0} (image : D → List ℕ → Type 0) (s : Setting) (leaf : ℕ) (old new : List Waits)
    (before after : List D) (answers : List Answered) : Type 0 where
  pub members : List QueuedOp
  pub some : 0 < length members
  pub among : AllByRecursion (Contains (waiting_at old leaf)) members
  pub keys : map (λ (b : Answered). b.ticket) answers ≡ keys_in members
  pub leave : (key : ℕ) → times_in key (keys_at old) ≡ times_in key (keys_in members) + times_in key (keys_at new)
  pub stay : AllByRecursion (Contains (waiting_at old leaf)) (waiting_at new leaf)
  pub others : (other : ℕ) → other ≢ leaf → waiting_at new other ≡ waiting_at old other
  pub count : length new ≡ length old
  pub done : (acts : List LeafOp) (images : Images) → WaitForAll leaf acts members → Tell image before images
      → (left : Images) × AreDone s acts answers images left × Tell image after left
  pub whole : AreWhole members answers
