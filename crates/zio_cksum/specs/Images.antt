-- The leaves' images, and what one operation on a leaf answers and leaves.
use Rattle.std.specs.Prelude.{ℕ, ◌+◌, List, [], ◌++◌, length, take, drop, slice_index_or, slice_set, Bool, true, false, Option, Some, None, Result, Ok, Err}
pub use Rattle.zio_types.specs.Bytes.{overwritten}
use Rattle.zio_types.specs.declared.error.Errno.{Errno}
use Rattle.zio_types.specs.declared.error.Errno.TheVariants.{Io, Nxio}
use Rattle.zio_types.specs.declared.place.Top.{Top}
use Rattle.zio_types.specs.Filled.{filled_to}
use Rattle.zio_faults.specs.declared.table.Row.{Row}
use Rattle.zio_faults.specs.declared.table.Hit.{Hit}
use Rattle.zio_faults.specs.declared.table.FaultKind.{FaultKind}
use Rattle.zio_faults.specs.declared.table.FaultKind.TheVariants.{Eio, Gone, Flip}
use Rattle.zio_faults.specs.Hits.{first_hit, flipped}

-- each leaf's bytes, by its number
abbrev pub Images : Type 0
Images = List (List ℕ)

-- what an operation depends on beside the images: the tops, the fault table and the resume point
pub record Setting : Type 0 where
  pub tops : List Top
  pub rows : List Row
  pub point : ℕ

-- where an operation goes: a leaf, a byte of it, and how many bytes its place has from there on
pub record Spot : Type 0 where
  pub leaf : ℕ
  pub at : ℕ
  pub span : ℕ

-- the bytes of one leaf
abbrev pub image_of : Images → ℕ → List ℕ
image_of images leaf = slice_index_or images leaf []

-- so many bytes there
abbrev pub bytes_at : Images → Spot → ℕ → List ℕ
bytes_at images spot len = take len (drop spot.at (image_of images spot.leaf))

-- the images with these bytes there
abbrev pub with_bytes : Images → Spot → List ℕ → Images
with_bytes images spot bytes =
    slice_set images spot.leaf (overwritten (image_of images spot.leaf) spot.at bytes)

-- the row that an operation meets, which covers its whole place
abbrev pub met : Setting → Bool → Bool → Spot → Option Hit
met s retry write spot = first_hit s.rows (record {
  leaf = spot.leaf;
  write = write;
  at = spot.at;
  len = spot.span;
  point = s.point;
  retry = retry;
})

-- ---- a read

-- what a row of this kind makes of a read's bytes
abbrev pub faulty_read : FaultKind → Hit → ℕ → List ℕ → Result (List ℕ) Errno
faulty_read Eio hit at bytes = Err Io
faulty_read Gone hit at bytes = Err Nxio
faulty_read Flip hit at bytes = Ok (flipped at hit bytes)

-- a read's answer by the row that it meets, if any
-- Rule: fault kinds.
abbrev pub read_met : Option Hit → ℕ → List ℕ → Result (List ℕ) Errno
read_met None at bytes = Ok bytes
read_met (Some hit) at bytes = faulty_read hit.kind hit at bytes

-- the answer of a leaf: the first bytes of the place, or as the row that it meets says
-- Rule: sector units.
abbrev pub read_leaf : Setting → Bool → Images → ℕ → Spot → Result (List ℕ) Errno
read_leaf s retry images len spot = read_met (met s retry false spot) spot.at (bytes_at images spot len)

-- ---- a write

-- an error or none, and the images after
pub record Written : Type 0 where
  pub error : Option Errno
  pub images : Images

-- a write that stored nothing
abbrev pub failed : Errno → Images → Written
failed e images = record { error = Some e; images = images }

-- a write whose bytes lie on the image
abbrev pub stored : Images → Spot → List ℕ → Written
stored images spot bytes = record { error = None; images = with_bytes images spot bytes }

-- what a row of this kind makes of a write
abbrev pub faulty_write : FaultKind → Hit → Images → Spot → List ℕ → Written
faulty_write Eio hit images spot bytes = failed Io images
faulty_write Gone hit images spot bytes = failed Nxio images
faulty_write Flip hit images spot bytes = stored images spot (flipped spot.at hit bytes)

-- what a write does by the row that it meets, if any
-- Rule: fault kinds.
abbrev pub write_met : Option Hit → Images → Spot → List ℕ → Written
write_met None images spot bytes = stored images spot bytes
write_met (Some hit) images spot bytes = faulty_write hit.kind hit images spot bytes

-- the bytes, and zeros behind them to the end of a place of so many bytes
abbrev pub padded_to : ℕ → List ℕ → List ℕ
padded_to span bytes = take span (filled_to 0 span bytes)

-- a leaf stores the bytes and zeros to the place's end, or does as the row that it meets says
-- Rule: sector units.
abbrev pub write_leaf : Setting → Bool → List ℕ → Images → Spot → Written
write_leaf s retry bytes images spot = write_met (met s retry true spot) images spot (padded_to spot.span bytes)
