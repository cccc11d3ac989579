-- What becomes of a block's parts, whatever the disks hold: which keys their entries have, and how the pointers and
-- headers that are made agree with the places that were taken.
use Rattle.std.specs.Prelude.{◌≡◌, ℕ, ◌<◌, ◌≤◌, List, [], ◌∷◌, ◌++◌, length, map, take, Option, Some, None, IfSome, IsPermutation, ◌⊎◌}
use Rattle.std.specs.List.{AllByRecursion, flat_map}
use Rattle.zio_types.specs.declared.error.Errno.{Errno}
use Rattle.zio_types.specs.declared.error.Errno.TheVariants.{Nospc}
use Rattle.zio_types.specs.declared.journal.Role.TheVariants.{Head as HeadRole}
use Rattle.zio_types.specs.declared.place.Place.{Place}
use Rattle.zio_types.specs.declared.place.TopSize.{TopSize}
use Rattle.zio_types.specs.Choices.{Choice}
use Rattle.zio_types.specs.Errors.{rank}
use Rattle.zio_types.specs.Filled.{filled_to}
use Rattle.zio_blkptr.specs.declared.pointer.Bp.{Bp}
use Rattle.zio_blkptr.specs.Pointers.{places_of}
use Rattle.zio_cksum.specs.Headers.{members_max, members_of}
use Rattle.zio_gang.specs.declared.tree.Head.{Head}
use Rattle.zio_gang.specs.Journals.{HaveDistinctKeys, asks_of}
use Rattle.zio_disks.specs.Whole.{AreUnder, AreUnderMembers}
use Rattle.zio_blocks.specs.Parts.{IsMade}
use Rattle.zio_blocks.specs.declared.pieces.Part.{Part}

-- ---- keys

-- the entry was asked for the part at this path, or for one below it
pub record IsFrom (path : List ℕ) (entry : Choice) : Type 0 where
  pub rest : List ℕ
  pub at : entry.asked.key.path ≡ path ++ rest

-- the entry was asked below the gang at this path, for its member n or one behind it
pub record IsBelow (path : List ℕ) (n : ℕ) (entry : Choice) : Type 0 where
  pub member : ℕ
  pub rest : List ℕ
  pub from : n ≤ member
  pub at : entry.asked.key.path ≡ path ++ member ∷ rest

-- the entry was asked for the header of the gang at this path
pub record IsHeadOf (path : List ℕ) (entry : Choice) : Type 0 where
  pub role : entry.asked.key.role ≡ HeadRole
  pub at : entry.asked.key.path ≡ path

-- the entry was asked for the gang at this path: for its header, or below it
abbrev pub IsOfGang : List ℕ → Choice → Type 0
IsOfGang path entry = IsHeadOf path entry ⊎ IsBelow path 0 entry

-- each of the entries is one of these, and no key stands twice
pub record AskOnce (Of : Choice → Type 0) (entries : List Choice) : Type 0 where
  pub once : HaveDistinctKeys (asks_of entries)
  pub each : AllByRecursion Of entries

-- ---- places and headers

-- the places of a pointer, if there is one
abbrev pub places_if : Option Bp → List Place
places_if None = []
places_if (Some bp) = places_of bp

-- the pointers of all members that these headers name
abbrev pub pointers_in : List Head → List Bp
pointers_in heads = flat_map (λ (h : Head). members_of h.bytes) heads

-- A part of so many bytes at a path, with the headers under it, that took these places. Without a pointer it took none.
-- Its headers are whole unless a part under it has no place, which is an error of that rank at least.
pub record IsLaid (tops : List TopSize) (levels : ℕ) (path : List ℕ) (len : ℕ) (part : Part) (heads : List Head) (taken : List Place) : Type 0 where
  pub made : IfSome part.pointer (IsMade tops)
  pub size : IfSome part.pointer (λ bp. bp.size ≡ len)
  pub named : AllByRecursion (IsMade tops) (pointers_in heads)
  pub places : IsPermutation (places_if part.pointer ++ flat_map places_of (pointers_in heads)) taken
  pub nowhere : part.pointer ≡ None → (taken ≡ []) × (part.error ≡ Some Nospc)
  pub whole : rank part.error < rank (Some Nospc) → IfSome part.pointer (λ bp. AreUnder levels path bp heads)

-- The members all have a place: they have these sizes, and the headers are those under them.
pub record AreWhole (levels : ℕ) (path : List ℕ) (n : ℕ) (sizes : List ℕ) (members : List (Option Bp)) (heads : List Head) : Type 0 where
  pub bps : List Bp
  pub all : members ≡ map Some bps
  pub sizes_are : map (λ (bp : Bp). bp.size) bps ≡ sizes
  pub under : AreUnderMembers (AreUnder levels) path n bps heads

-- Members of these sizes, numbered from n, with the headers under them, that took these places.
pub record AreLaid (tops : List TopSize) (levels : ℕ) (path : List ℕ) (n : ℕ) (sizes : List ℕ) (error : Option Errno) (pointers_old pointers_new : List (Option Bp)) (heads : List Head) (taken : List Place) : Type 0 where
  pub members : List (Option Bp)
  pub pointers : pointers_new ≡ filled_to None members_max (take n pointers_old ++ members)
  pub count : length members ≡ length sizes
  pub made : AllByRecursion (λ (m : Option Bp). IfSome m (IsMade tops)) members
  pub named : AllByRecursion (IsMade tops) (pointers_in heads)
  pub places : IsPermutation (flat_map places_if members ++ flat_map places_of (pointers_in heads)) taken
  pub whole : rank error < rank (Some Nospc) → AreWhole levels path n sizes members heads
