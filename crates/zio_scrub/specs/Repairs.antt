-- Repairs that wait at their leaves.
use Rattle.std.specs.Prelude.{◌≡◌, ℕ, ◌≤◌, List, [], length, map, slice_index_or, true, false, Option}
use Rattle.zio_types.specs.declared.error.Errno.{Errno}
use Rattle.zio_types.specs.declared.request.Flags.{Flags}
use Rattle.zio_types.specs.declared.request.Prio.TheVariants.{AsyncWrite}
use Rattle.zio_vqueue.specs.declared.op.Op.{Op}
use Rattle.zio_cksum.specs.Images.{Spot}
use Rattle.zio_trace.specs.Leaves.{AreClear}
use Rattle.zio_groups.specs.declared.waiting.Answered.{Answered}
use Rattle.zio_groups.specs.declared.waiting.QueuedOp.{QueuedOp}
use Rattle.zio_scrub.specs.declared.repairs.Repair.{Repair}
use Rattle.zio_scrub.specs.Layouts.{FitsQueue, IsCopyOn}
use Rattle.zio_scrub.specs.Reads.{IsAt}

-- the copies of two repairs have no byte in common
abbrev pub ClearOf : Repair → Repair → Type 0
ClearOf a b = AreClear a.spot b.spot

-- its copy has room for its bytes and lies on the disk of its leaf, where the disks have these sizes
abbrev pub IsRepairOn : List ℕ → Repair → Type 0
IsRepairOn sizes r = IsCopyOn sizes (length r.bytes) r.spot

-- a queue of one of so many leaves can take it
pub record FitsRepair (leaves : ℕ) (r : Repair) : Type 0 where
  pub queue : FitsQueue leaves r.spot
  pub room : length r.bytes ≤ r.spot.span

abbrev pub spots_of_all : List Repair → List Spot
spots_of_all repairs = map (λ (r : Repair). r.spot) repairs

abbrev pub errors_of : List Answered → List (Option Errno)
errors_of answers = map (λ (a : Answered). a.error) answers

abbrev pub repair_flags : Flags
repair_flags = record { canfail = false; retry = false; dont_aggregate = false; repair = true }

-- the write of a whole copy, of the first pass
abbrev pub write_op : ℕ → Spot → Op
write_op ticket spot =
    record { ticket = ticket; write = true; at = spot.at; len = spot.span; prio = AsyncWrite; flags = repair_flags }

-- it waits at its leaf for a repair
pub record IsRepairOf (repairs : List Repair) (leaf : ℕ) (w : QueuedOp) : Type 0 where
  pub repair : Repair
  pub at : IsAt repairs w.op.ticket repair
  pub here : repair.spot.leaf ≡ leaf
  pub is : w ≡ record { op = write_op w.op.ticket repair.spot; bytes = repair.bytes }

abbrev pub no_repair : Repair
no_repair = record { spot = record { leaf = 0; at = 0; span = 0 }; bytes = [] }

-- the leaf of a repair
abbrev pub leaf_of : List Repair → ℕ → ℕ
leaf_of repairs ticket = (slice_index_or repairs ticket no_repair).spot.leaf
