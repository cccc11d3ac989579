-- Disks that bear the tops of a setting, blocks whose places lie on them, and what the headers of a block name.
use Rattle.std.specs.Prelude.{◌≡◌, ℕ, ◌*◌, ◌≤◌, List, [], ◌∷◌, Contains, false, Option, Some, slice_index_or, IsTrue, Result, Ok, Err}
use Rattle.std.specs.List.{AllByRecursion, list_all}
use Rattle.zio_types.specs.declared.error.Errno.{Errno}
use Rattle.zio_types.specs.declared.place.Top.{Top}
use Rattle.zio_types.specs.declared.place.TopSize.{TopSize}
use Rattle.zio_types.specs.Places.{is_inside, sector_size}
use Rattle.zio_faults.specs.Hits.{RowFits}
use Rattle.zio_blkptr.specs.declared.pointer.Bp.{Bp}
use Rattle.zio_blkptr.specs.Pointers.{places_of, valid}
use Rattle.zio_cksum.specs.Headers.{members_of}
use Rattle.zio_cksum.specs.Images.{Setting}
use Rattle.zio_gang.specs.declared.tree.Tree.{Tree}
use Rattle.zio_gang.specs.Trees.{tree_pointers}

-- each leaf of the top has all its sectors on its disk, where the disks have these sizes in bytes
abbrev pub HasSectors : List ℕ → Top → Type 0
HasSectors sizes top = AllByRecursion (λ leaf. top.sectors * sector_size ≤ slice_index_or sizes leaf 0) top.leaves

-- disks of these sizes bear the setting's tops, and the range of each of its rows fits
pub record BearsTops (s : Setting) (sizes : List ℕ) : Type 0 where
  pub rows : AllByRecursion RowFits s.rows
  pub tops : AllByRecursion (HasSectors sizes) s.tops

-- the pointer is valid, and each of its places is inside its top
pub record IsPlacedIn (tops : List TopSize) (bp : Bp) : Type 0 where
  pub ok : IsTrue (valid bp)
  pub inside : IsTrue (list_all (is_inside tops) (places_of bp))

-- of a block's pointer, and of each member that its headers name
abbrev pub IsPlacedTree : List TopSize → Tree → Type 0
IsPlacedTree tops tree = AllByRecursion (IsPlacedIn tops) (tree_pointers tree)

-- a pointer of the block that is no gang
pub record IsBodyOf (tree : Tree) (bp : Bp) : Type 0 where
  pub listed : Contains (tree_pointers tree) bp
  pub plain : bp.gang ≡ false

-- the members that a header names, or the error in its place
abbrev pub members_in : Result (List ℕ) Errno → Result (List Bp) Errno
members_in (Ok bytes) = Ok (members_of bytes)
members_in (Err e) = Err e

-- what a read adds to the errors, and to the bytes
abbrev pub errors_in : Result (List ℕ) Errno → List (Option Errno)
errors_in (Ok bytes) = []
errors_in (Err e) = Some e ∷ []

abbrev pub bytes_in : Result (List ℕ) Errno → List ℕ
bytes_in (Ok bytes) = bytes
bytes_in (Err e) = []
