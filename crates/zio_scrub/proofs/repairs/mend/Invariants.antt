use Rattle.std.proofs.Common.{Ok, map}
use Rattle.std.specs.List.{AllByRecursion}
use Rattle.zio_cksum.specs.Images.{Images}
use Rattle.zio_trace.specs.TreeOrders.{Pairs}
use Rattle.zio_disks.specs.Disks.{Handles, Tell}
use Rattle.zio_scrub.specs.Queues.{AllWait, IsOrdered, waiting_count}
use Rattle.zio_scrub.specs.Repairs.{ClearOf, IsRepairOf, spots_of_all}
use Rattle.zio_scrub.proofs.MendSteps.{AreCounted, IsUnderWay}
use Rattle.zio_scrub.proofs.repairs.mend.Given as goal

abbrev pub invariant-loop-leaf : goal.invariant-loop-leaf
invariant-loop-leaf g l = record {
  all : AllWait (IsRepairOf l.fn.repairs) l.queues.leaves.items;
  order : AllByRecursion IsOrdered l.queues.leaves.items;
  counted : AreCounted l.setting l.fn.repairs l.queues.leaves.items l.mended.repaired l.mended.failed;
  told : (images : Images) → Tell g.D.Disk.image l.fn.disks images → Pairs ClearOf l.fn.repairs →
      IsUnderWay g.D.Disk.image l.setting (map g.D.Disk.bytes l.fn.disks) l.fn.repairs l.queues.leaves.items images l.disks;
  handled : Handles {A = Unit {0}} g.D.Disk.bytes g.D.Disk.faults g.D.Disk.faults_at_fetch g.D.Disk.home g.D.Disk.image g.D.Disk.sound
      g.D.Disk.went (spots_of_all l.fn.repairs) (Ok tt) l.fn.disks l.disks;
}

abbrev pub decreases-loop-leaf : goal.decreases-loop-leaf
decreases-loop-leaf g l = waiting_count l.queues.leaves.items
