-- What waits at the leaves, and what issuing a group comes to.
use Rattle.std.specs.Prelude.{◌≡◌, ◌≢◌, ℕ, ◌<◌, ◌≤◌, List, [], ◌∷◌, ◌++◌, length, map, slice_index_or, Bool, true, false, ◌&&◌, not, Contains}
use Rattle.std.specs.List.{AllByRecursion}
use Rattle.zio_vqueue.specs.Queues.{AreApart, is_queued}
use Rattle.zio_cksum.specs.Images.{Images, Setting}
use Rattle.zio_disks.specs.Disks.{Tell}
use Rattle.zio_groups.specs.declared.waiting.Answered.{Answered}
use Rattle.zio_groups.specs.declared.waiting.QueuedOp.{QueuedOp}
use Rattle.zio_groups.specs.Issued.{AreWhole, all_issued, head_of}
use Rattle.zio_groups.specs.LeafQueues.{Waits, ops_of}
use Rattle.zio_scrub.specs.Scrubs.{total}

-- no group of it is active
abbrev pub IsIdle : Waits → Type 0
IsIdle q = q.active ≡ 0 ∷ 0 ∷ 0 ∷ 0 ∷ 0 ∷ []

-- and no two of those that wait have one ticket
pub record IsOrdered (q : Waits) : Type 0 where
  pub idle : IsIdle q
  pub apart : AreApart (ops_of q.waiting)

-- a queue in which nothing waits and nothing is active
abbrev pub no_waits : Waits
no_waits = record { waiting = []; active = 0 ∷ 0 ∷ 0 ∷ 0 ∷ 0 ∷ []; last = 0 }

-- what waits at a leaf
abbrev pub waiting_at : List Waits → ℕ → List QueuedOp
waiting_at leaves leaf = (slice_index_or leaves leaf no_waits).waiting

-- this ticket waits at the leaf
abbrev pub waits_at : List Waits → ℕ → ℕ → Bool
waits_at leaves leaf ticket = is_queued ticket (ops_of (waiting_at leaves leaf))

-- this holds of all that waits, with its leaf
abbrev pub AllWait : (ℕ → QueuedOp → Type 0) → List Waits → Type 0
AllWait P leaves = (leaf : ℕ) → AllByRecursion (P leaf) (waiting_at leaves leaf)

-- how many operations wait
abbrev pub waiting_count : List Waits → ℕ
waiting_count leaves = total (λ (q : Waits). length q.waiting) leaves

-- an operation waits there behind the others
pub record IsPut (leaf : ℕ) (w : QueuedOp) (old new : List Waits) : Type 0 where
  pub here : waiting_at new leaf ≡ waiting_at old leaf ++ w ∷ []
  pub others : (other : ℕ) → other ≢ leaf → waiting_at new other ≡ waiting_at old other
  pub count : length new ≡ length old

-- Some of what waited at a leaf waits no more and was answered; all else waits as before. For images that the disks told
-- they were done one after another, and the disks tell what that leaves; their errors are the same whatever the disks hold.
pub record AreIssued {D : Type 0} (image : D → List ℕ → Type 0) (s : Setting) (leaf : ℕ) (old new : List Waits)
    (before after : List D) (answers : List Answered) : Type 0 where
  pub members : List QueuedOp
  pub among : AllByRecursion (Contains (waiting_at old leaf)) members
  pub apart : AreApart (ops_of members)
  pub left : (ticket : ℕ) → waits_at new leaf ticket ≡ (waits_at old leaf ticket && not (is_queued ticket (ops_of members)))
  pub stay : AllByRecursion (Contains (waiting_at old leaf)) (waiting_at new leaf)
  pub others : (other : ℕ) → other ≢ leaf → waiting_at new other ≡ waiting_at old other
  pub count : length new ≡ length old
  pub fewer : waiting_count new < waiting_count old
  pub told : (images : Images) → Tell image before images →
      (answers ≡ (all_issued s leaf members images).answers) × Tell image after (all_issued s leaf members images).images
  pub heads : (images : Images) → map head_of answers ≡ map head_of ((all_issued s leaf members images).answers)
  pub whole : AreWhole members answers

-- Of tickets below n each waits at its leaf, and those are all that wait.
pub record HaveAll (P : ℕ → QueuedOp → Type 0) (leaf_of : ℕ → ℕ) (n : ℕ) (leaves : List Waits) : Type 0 where
  pub all : AllWait P leaves
  pub wait : (ticket : ℕ) → ticket < n → waits_at leaves (leaf_of ticket) ticket ≡ true
  pub no_other : (leaf ticket : ℕ) → n ≤ ticket → waits_at leaves leaf ticket ≡ false
