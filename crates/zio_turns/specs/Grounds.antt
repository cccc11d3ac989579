-- What waits at the leaves lies on the disks.
use Rattle.std.specs.Prelude.{ℕ, List}
use Rattle.std.specs.List.{AllByRecursion}
use Rattle.zio_faults.specs.declared.table.Row.{Row}
use Rattle.zio_faults.specs.Hits.{RowFits}
use Rattle.zio_groups.specs.Issued.{EndsOn}
use Rattle.zio_groups.specs.LeafQueues.{Waits}
use Rattle.zio_turns.specs.AtLeaves.{AllWait, AreInOrder}

-- The queues are in order, the rows of the fault table fit, and each operation that waits ends on the disk of its leaf, where the
-- disks have these sizes.
pub record AreReady (rows : List Row) (sizes : List ℕ) (leaves : List Waits) : Type 0 where
  pub order : AreInOrder leaves
  pub fit : AllByRecursion RowFits rows
  pub lie : AllWait (EndsOn sizes) leaves
