-- The worked run: its script, what it prints, and the image that it leaves.
use Rattle.std.specs.Prelude.{◌≡◌, ◌≢◌, ℕ, ◌*◌, ◌<◌, List, [], ◌∷◌, ◌++◌, codes, replicate, Option, Some, None}
use Rattle.zio_types.specs.Bytes.{overwritten}
use Rattle.zio_outside.specs.Memory.{disk_fails, disk_faults, disk_image}
use Rattle.zio_outside.specs.MemoryShelf.{image_of, shelf_disk_faults, shelf_fails, shelf_faults, shelf_slot}
use Rattle.zio_outside.specs.declared.mem_disk.MemDisk.{MemDisk}
use Rattle.zio_outside.specs.declared.mem_shelf.MemShelf.{MemShelf}

-- ---- the script and the report

-- one block is written, and read in the next batch
abbrev pub row_text : List ℕ
row_text = codes "top 0\n1 write x sha256 1 sync fill 41 512\ngo\n2 read x sync\ngo\n"

-- the last number is the fletcher4 sum of 512 bytes 0x41
abbrev pub row_report : List ℕ
row_report =
    codes "pool 1 1\nround 1 batch 1 point 0\n1 write x ok 512\nround 2 batch 2 point 0\n"
    ++ codes "2 read x ok 512 20a0a0a080:83878787040:16439b9b85580:2d92628254f020\nend 0\n"

-- ---- the image

-- so many bytes of zero
unfoldable pub zeros : ℕ → List ℕ
zeros len = replicate len 0

-- 64 KiB of zeros, which have 128 sectors
abbrev pub blank_image : List ℕ
blank_image = zeros 65536

-- a disk with this image is at home under the name `a` and none under another, and no call of it or of the shelf fails
pub record HasOneImage (image : List ℕ) (shelf : MemShelf MemDisk) : Type 0 where
  pub disk : MemDisk
  pub home : shelf_slot shelf (codes "a") ≡ Some (Some disk)
  pub others : (name : List ℕ) → name ≢ codes "a" → shelf_slot shelf name ≡ None
  pub stored : disk_image disk ≡ image
  pub disk_steady : disk_fails disk ≡ []
  pub disk_faultless : disk_faults disk ≡ 0
  pub steady : shelf_fails shelf ≡ []
  pub faultless : shelf_faults shelf ≡ 0
  pub disks_faultless : shelf_disk_faults shelf ≡ 0

-- the disk is at home with this image, but for one sector that has the block
pub record HoldsBlock (image : List ℕ) (shelf : MemShelf MemDisk) : Type 0 where
  pub sector : ℕ
  pub inside : sector < 128
  pub stored : image_of (shelf_slot shelf) (codes "a") (overwritten image (sector * 512) (replicate 512 0x41))
