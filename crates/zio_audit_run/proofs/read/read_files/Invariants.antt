use Rattle.std.proofs.Common.{◌≡◌, ◌≤◌, ℕ, [], Ok, length, map}
use Rattle.std.specs.Prelude.{slice_range}
use Rattle.zio_cksum.specs.Images.{Images}
use Rattle.zio_disks.specs.Disks.{Handles, Tell}
use Rattle.zio_audit_run.specs.Reads.{TellStill}
use Rattle.zio_audit_run.proofs.read.read_files.Given as goal

abbrev pub invariant-loop-k : goal.invariant-loop-k
invariant-loop-k g l = record {
  told : (images : Images) → Tell g.D.Disk.image l.fn.disks images → l.files.items ≡ slice_range images l.fn.first l.k;
  sizes : map (length {A = ℕ}) l.files.items ≡ slice_range (map g.D.Disk.bytes l.fn.disks) l.fn.first l.k;
  behind : l.fn.first ≤ l.k;
  ahead : l.k ≤ l.fn.end;
  still : TellStill g.D.Disk.image l.fn.disks l.disks;
  handled : Handles {A = ℕ} g.D.Disk.bytes g.D.Disk.faults g.D.Disk.faults_at_fetch g.D.Disk.home g.D.Disk.image g.D.Disk.sound g.D.Disk.went [] (Ok 0) l.fn.disks l.disks;
}
