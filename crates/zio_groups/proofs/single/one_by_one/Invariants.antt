use Rattle.std.proofs.Common.{◌≡◌, Ok, map, take}
use Rattle.zio_cksum.specs.Images.{Images}
use Rattle.zio_disks.specs.Disks.{Handles, Tell}
use Rattle.zio_groups.specs.Issued.{AreWhole, all_issued, head_of, written_spots}
use Rattle.zio_groups.proofs.single.one_by_one.Given as goal

abbrev pub invariant-loop-member : goal.invariant-loop-member
invariant-loop-member g l =
    ((images : Images) → Tell g.D.Disk.image l.fn.disks images →
    (l.answers ≡ (all_issued l.setting l.leaf (take l.member-index l.members) images).answers)
    × Tell g.D.Disk.image l.disks (all_issued l.setting l.leaf (take l.member-index l.members) images).images)
    × ((images : Images) → map head_of l.answers ≡ map head_of ((all_issued l.setting l.leaf (take l.member-index l.members) images).answers))
    × AreWhole (take l.member-index l.members) l.answers
    × Handles {A = Unit {0}} g.D.Disk.bytes g.D.Disk.faults g.D.Disk.faults_at_fetch g.D.Disk.home g.D.Disk.image g.D.Disk.sound g.D.Disk.went (written_spots l.leaf l.members) (Ok tt) l.fn.disks l.disks
