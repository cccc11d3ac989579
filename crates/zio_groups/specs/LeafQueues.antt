-- What a leaf's queue holds with the bytes to write, and what issuing a group of it comes to.
use Rattle.std.specs.Prelude.{◌≡◌, ℕ, ◌+◌, List, [], ◌∷◌, length, map, filter, not, Bool, ◌==◌, cond, unwrap_or, Option, Contains}
use Rattle.std.specs.List.{AllByRecursion}
use Rattle.zio_vqueue.specs.declared.op.Op.{Op}
use Rattle.zio_vqueue.specs.declared.op.Group.{Group}
use Rattle.zio_vqueue.specs.Queues.{AreApart, Queue}
use Rattle.zio_vqueue.specs.Groups.{IsNextGroup, IsRun, IsSpanOf, gap_max}
use Rattle.zio_cksum.specs.Images.{Images, Setting}
use Rattle.zio_disks.specs.Disks.{Tell}
use Rattle.zio_groups.specs.declared.waiting.QueuedOp.{QueuedOp}
use Rattle.zio_groups.specs.declared.waiting.Answered.{Answered}
use Rattle.zio_groups.specs.Issued.{AreWhole, IsFit, all_issued, head_of}

-- the waiting operations in the order of putting, the active groups of each class, and the end of the last group taken
pub record Waits : Type 0 where
  pub waiting : List QueuedOp
  pub active : List ℕ
  pub last : ℕ

abbrev pub ops_of : List QueuedOp → List Op
ops_of ws = map (λ (w : QueuedOp). w.op) ws

abbrev pub queue_of : Waits → Queue
queue_of w = record { queued = ops_of w.waiting; active = w.active; last = w.last }

-- an operation as it waits: a read has no bytes to write
abbrev pub waiting_with : Op → List ℕ → QueuedOp
waiting_with o bytes = record { op = o; bytes = cond o.write bytes [] }

-- an operation with the bytes that are kept for its ticket
abbrev pub kept_with : (ℕ → Option (List ℕ)) → Op → QueuedOp
kept_with kept o = waiting_with o (unwrap_or (kept o.ticket) [])

-- a queue's operations with what is kept for their tickets
abbrev pub waits_of : (ℕ → Option (List ℕ)) → Queue → Waits
waits_of kept q = record { waiting = map (kept_with kept) q.queued; active = q.active; last = q.last }

-- the operations without those that have the tickets of others
abbrev pub waiting_without : List Op → List QueuedOp → List QueuedOp
waiting_without [] ws = ws
waiting_without (m ∷ ms) ws = waiting_without ms (filter (λ (w : QueuedOp). not (w.op.ticket == m.ticket)) ws)

-- what the fields of a leaf's queue keep
pub record IsInOrder (w : Waits) : Type 0 where
  pub room : length w.active ≡ 5
  pub fit : AllByRecursion IsFit w.waiting
  pub apart : AreApart (ops_of w.waiting)

-- the members of a group with their bytes: all are reads or all are writes, and they lie in its span as a group's do
pub record AreMembers (group : Group) (write : Bool) (ws : List QueuedOp) : Type 0 where
  pub ops : ops_of ws ≡ group.ops
  pub alike : AllByRecursion (λ (w : QueuedOp). w.op.write ≡ write) ws
  pub run : IsRun (gap_max write) (ops_of ws)
  pub span : IsSpanOf group (ops_of ws)

-- the queue after a group was issued: it is active no more
abbrev pub after_issue : Waits → Group → Waits
after_issue w group = record {
  waiting = waiting_without group.ops w.waiting;
  active = w.active;
  last = group.at + group.len;
}

-- The next group was issued: for images that the disks told, its operations answered as they do one after another, and the
-- disks tell what that leaves; their errors are the same whatever the disks hold.
pub record IsIssued {D : Type 0} (image : D → List ℕ → Type 0) (s : Setting) (leaf : ℕ) (old new : Waits) (before after : List D) (answers : List Answered) : Type 0 where
  pub group : Group
  pub members : List QueuedOp
  pub next : IsNextGroup (queue_of old) group
  pub ops : ops_of members ≡ group.ops
  pub among : AllByRecursion (Contains old.waiting) members
  pub left : new ≡ after_issue old group
  pub told : (images : Images) → Tell image before images →
      (answers ≡ (all_issued s leaf members images).answers) × Tell image after (all_issued s leaf members images).images
  pub heads : (images : Images) → map head_of answers ≡ map head_of ((all_issued s leaf members images).answers)
  pub whole : AreWhole members answers
