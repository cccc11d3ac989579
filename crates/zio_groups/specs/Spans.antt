-- A group that is issued as one call for its span.
use Rattle.std.specs.Prelude.{◌≡◌, ℕ, ◌-◌, List, [], ◌∷◌, ◌++◌, length, map, take, drop, None}
use Rattle.zio_vqueue.specs.declared.op.Group.{Group}
use Rattle.zio_cksum.specs.Images.{Images, Spot, bytes_at, padded_to}
use Rattle.zio_disks.specs.Disks.{Tell}
use Rattle.zio_groups.specs.declared.waiting.QueuedOp.{QueuedOp}
use Rattle.zio_groups.specs.declared.waiting.Answered.{Answered}

abbrev pub span_spot : ℕ → Group → Spot
span_spot leaf group = record { leaf = leaf; at = group.at; span = group.len }

-- a member's answer from the bytes of a span that begins there
abbrev pub part_answered : ℕ → List ℕ → QueuedOp → Answered
part_answered at bytes w = record { ticket = w.op.ticket; error = None; bytes = take w.op.len (drop (w.op.at - at) bytes) }

-- the answer of a write that was stored
abbrev pub stored_answered : QueuedOp → Answered
stored_answered w = record { ticket = w.op.ticket; error = None; bytes = [] }

-- what writes that touch put on the span
abbrev pub joined : List QueuedOp → List ℕ
joined [] = []
joined (w ∷ ws) = padded_to w.op.len w.bytes ++ joined ws

-- the members of a group of reads got their parts of the span's bytes
pub record AreParts {D : Type 0} (image : D → List ℕ → Type 0) (leaf : ℕ) (group : Group) (members : List QueuedOp) (before after : List D) (answers : List Answered) : Type 0 where
  pub bytes : List ℕ
  pub long : length bytes ≡ group.len
  pub parts : answers ≡ map (part_answered group.at bytes) members
  pub told : (images : Images) → Tell image before images →
      (bytes ≡ bytes_at images (span_spot leaf group) group.len) × Tell image after images
