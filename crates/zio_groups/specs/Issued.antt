-- What a leaf's operations answer and leave, done one after another.
use Rattle.std.specs.Prelude.{◌≡◌, ℕ, ◌≤◌, List, [], ◌∷◌, length, map, filter, take, slice_index_or, Bool, true, false, Option, Some, None, Result, Ok, Err}
use Rattle.zio_types.specs.declared.error.Errno.{Errno}
use Rattle.zio_vqueue.specs.declared.op.Op.{Op}
use Rattle.zio_vqueue.specs.Queues.{FitsDevice, end_of}
use Rattle.zio_cksum.specs.Images.{Images, Setting, Spot, Written, read_leaf, write_leaf}
use Rattle.zio_groups.specs.declared.waiting.QueuedOp.{QueuedOp}
use Rattle.zio_groups.specs.declared.waiting.Answered.{Answered}

-- where an operation goes
abbrev pub spot_of : ℕ → Op → Spot
spot_of leaf o = record { leaf = leaf; at = o.at; span = o.len }

-- what operations answer, and the images after
pub record OneIssued : Type 0 where
  pub answer : Answered
  pub images : Images

pub record AllIssued : Type 0 where
  pub answers : List Answered
  pub images : Images

-- a read's bytes, or its error
abbrev pub read_answered : ℕ → Result (List ℕ) Errno → Answered
read_answered ticket (Ok bytes) = record { ticket = ticket; error = None; bytes = bytes }
read_answered ticket (Err e) = record { ticket = ticket; error = Some e; bytes = [] }

abbrev pub write_answered : ℕ → Written → OneIssued
write_answered ticket w = record {
  answer = record { ticket = ticket; error = w.error; bytes = [] };
  images = w.images;
}

-- A read of the whole range, or a write of the bytes and of zeros behind them; it meets rows as of the pass that its flag
-- says.
abbrev pub issued_by : Bool → Setting → ℕ → QueuedOp → Images → OneIssued
issued_by false s leaf w images = record {
  answer = read_answered w.op.ticket (read_leaf s w.op.flags.retry images w.op.len (spot_of leaf w.op));
  images = images;
}
issued_by true s leaf w images =
    write_answered w.op.ticket (write_leaf s w.op.flags.retry w.bytes images (spot_of leaf w.op))

abbrev pub one_issued : Setting → ℕ → QueuedOp → Images → OneIssued
one_issued s leaf w images = issued_by w.op.write s leaf w images

-- each on the images that those before left
abbrev pub all_issued : Setting → ℕ → List QueuedOp → Images → AllIssued
all_issued s leaf [] images = record { answers = []; images = images }
all_issued s leaf (w ∷ ws) images = record {
  answers = (one_issued s leaf w images).answer ∷ (all_issued s leaf ws (one_issued s leaf w images).images).answers;
  images = (all_issued s leaf ws (one_issued s leaf w images).images).images;
}

-- what an answer says beside its bytes
abbrev pub head_of : Answered → ℕ × Option Errno
head_of a = (a.ticket, a.error)

-- a read without an error answers its whole range
abbrev pub IsWhole : QueuedOp → Answered → Type 0
IsWhole w a = w.op.write ≡ false → a.error ≡ None → length a.bytes ≡ w.op.len

abbrev pub AreWhole : List QueuedOp → List Answered → Type 0
AreWhole [] [] = Unit {0}
AreWhole [] (b ∷ bs) = ⊥
AreWhole (w ∷ ws) [] = ⊥
AreWhole (w ∷ ws) (b ∷ bs) = IsWhole w b × AreWhole ws bs

-- an operation has no more bytes to write than its range, and ends on a device
pub record IsFit (w : QueuedOp) : Type 0 where
  pub device : FitsDevice w.op
  pub room : length w.bytes ≤ w.op.len

-- it ends on the disk of its leaf, where the disks have these sizes
abbrev pub EndsOn : List ℕ → ℕ → QueuedOp → Type 0
EndsOn sizes leaf w = end_of w.op ≤ slice_index_or sizes leaf 0

-- the ranges of those that write
abbrev pub written_spots : ℕ → List QueuedOp → List Spot
written_spots leaf ws = map (λ (w : QueuedOp). spot_of leaf w.op) (filter (λ (w : QueuedOp). w.op.write) ws)

-- the first bytes of a read's, or its error
abbrev pub front_of : ℕ → Result (List ℕ) Errno → Result (List ℕ) Errno
front_of len (Ok bytes) = Ok (take len bytes)
front_of len (Err e) = Err e
