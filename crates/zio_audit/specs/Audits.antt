-- What may be audited.
use Rattle.std.specs.Prelude.{◌≡◌, ◌≤◌, ℕ, List, length, map}
use Rattle.std.specs.List.{AllByRecursion}
use Rattle.zio_outside.specs.Memory.{IsSoundDisk, disk_image}
use Rattle.zio_outside.specs.declared.mem_disk.MemDisk.{MemDisk}
use Rattle.zio_script.specs.declared.read.TheConstants.{SCRIPT_LEN_MAX}
use Rattle.zio_cksum.specs.Images.{Images}
use Rattle.zio_spelled.specs.declared.count.TheConstants.{REPORT_LEN_MAX}
use Rattle.zio_command.specs.declared.image.TheConstants.{IMAGE_LEN_MIN}
use Rattle.zio_command.specs.declared.names.TheConstants.{IMAGES_MAX}
use Rattle.zio_audit.specs.declared.auditing.TheConstants.{AUDITED_LEN_MAX}
use Rattle.zio_audit.specs.Verdicts.{Case}

-- an image of so many bytes may be audited
pub record HasAuditedSize (bytes : ℕ) : Type 0 where
  pub least : IMAGE_LEN_MIN ≤ bytes
  pub most : bytes ≤ AUDITED_LEN_MAX

-- A case that may be audited: its texts and images are no longer than the limits, there are few images, and those after
-- the run have the sizes of those before it.
pub record MayBeAudited (c : Case) : Type 0 where
  pub script : length c.script ≤ SCRIPT_LEN_MAX
  pub report : length c.report ≤ REPORT_LEN_MAX
  pub few : length c.before ≤ IMAGES_MAX
  pub sizes : AllByRecursion HasAuditedSize (map length c.before)
  pub pairs : map length c.after ≡ map length c.before

-- how many bytes each disk has
abbrev pub sizes_in : List MemDisk → List ℕ
sizes_in disks = map (λ (d : MemDisk). length (disk_image d)) disks

-- disks in memory with these images, none of whose calls fails
pub record AreNew (disks : List MemDisk) (images : Images) : Type 0 where
  pub images_are : map disk_image disks ≡ images
  pub sound : AllByRecursion IsSoundDisk disks
