use Rattle.std.proofs.Common.{[], Ok}
use Rattle.std.specs.List.{AllByRecursion}
use Rattle.zio_cksum.specs.Images.{Images}
use Rattle.zio_disks.specs.Disks.{Handles, Tell}
use Rattle.zio_scrub.specs.Queues.{AllWait, IsOrdered, waiting_count}
use Rattle.zio_scrub.specs.Reads.{AreOut, IsHeard, IsReadOf, IsTrueOf, mark_at}
use Rattle.zio_scrub.proofs.reads.read_all.Given as goal

abbrev pub invariant-loop-leaf : goal.invariant-loop-leaf
invariant-loop-leaf g l = record {
  all : AllWait (IsReadOf l.layout.copies) l.queues.leaves.items;
  order : AllByRecursion IsOrdered l.queues.leaves.items;
  out : AreOut l.layout.copies (mark_at l.heard) l.queues.leaves.items;
  heard : IsHeard l.layout l.heard;
  told : (images : Images) → Tell g.D.Disk.image l.fn.disks images →
      Tell g.D.Disk.image l.disks images × (IsTrueOf l.setting images l.layout l.fn.heard → IsTrueOf l.setting images l.layout l.heard);
  handled : Handles {A = Unit {0}} g.D.Disk.bytes g.D.Disk.faults g.D.Disk.faults_at_fetch g.D.Disk.home g.D.Disk.image g.D.Disk.sound
      g.D.Disk.went [] (Ok tt) l.fn.disks l.disks;
}

abbrev pub decreases-loop-leaf : goal.decreases-loop-leaf
decreases-loop-leaf g l = waiting_count l.queues.leaves.items
