-- What a good copy of a piece is, and of how many bytes.
use Rattle.std.specs.Prelude.{◌≡◌, ℕ, List, Bool, IsTrue, option_copied}
use Rattle.zio_types.specs.Places.{sector_size}
use Rattle.zio_blkptr.specs.Pointers.{valid}
use Rattle.zio_cksum.specs.Blocks.{good_body, good_claimed, good_kept}
use Rattle.zio_disks.specs.declared.copies.GoodCopy.{GoodCopy}
use Rattle.zio_disks.specs.declared.copies.GoodCopy.TheVariants.{Body, Kept, Claimed}

-- which bytes are good
abbrev pub good_by : GoodCopy → List ℕ → Bool
good_by (Body bp) = good_body bp.now
good_by (Kept header) = good_kept (option_copied header)
good_by (Claimed bp) = good_claimed bp.now

-- a body has the size that its pointer says, and a header is one sector; pointers are valid
abbrev pub IsOfSize : GoodCopy → ℕ → Type 0
IsOfSize (Body bp) len = IsTrue (valid bp.now) × (len ≡ bp.now.size)
IsOfSize (Kept header) len = len ≡ sector_size
IsOfSize (Claimed bp) len = IsTrue (valid bp.now) × (len ≡ sector_size)
