-- The parts of a block: what one asks for and is, before its block is put together.
use Rattle.std.specs.Prelude.{◌≡◌, ℕ, ◌*◌, ◌%◌, ◌^◌, ◌<◌, ◌≤◌, List, ◌++◌, take, Option, None, IsTrue}
use Rattle.std.specs.List.{list_all}
use Rattle.zio_types.specs.declared.error.Errno.{Errno}
use Rattle.zio_types.specs.declared.place.Place.{Place}
use Rattle.zio_types.specs.declared.place.TopSize.{TopSize}
use Rattle.zio_types.specs.Choices.{Ask, Choice}
use Rattle.zio_types.specs.Errors.{worst_of}
use Rattle.zio_types.specs.Filled.{filled_to}
use Rattle.zio_types.specs.Places.{is_inside}
use Rattle.zio_blkptr.specs.declared.pointer.Bp.{Bp}
use Rattle.zio_blkptr.specs.Pointers.{FitsTypes, places_of, valid}
use Rattle.zio_cksum.specs.Headers.{members_max}
use Rattle.zio_cksum.specs.Images.{Images}
use Rattle.zio_gang.specs.declared.tree.Head.{Head}
use Rattle.zio_gang.specs.Journals.{asks_of}
use Rattle.zio_gang.specs.Writes.{Members, Placed}
use Rattle.zio_disks.specs.Disks.{Tell}
use Rattle.zio_disks.specs.Whole.{IsFitting}
use Rattle.zio_blocks.specs.Blocks.{AnswersBy, AsksFor}
use Rattle.zio_blocks.specs.Choosers.{AreHeld, EntryLaw}
use Rattle.zio_blocks.specs.declared.place.Writing.{Writing}
use Rattle.zio_blocks.specs.declared.pieces.Part.{Part}

-- What a part's write asked of the chooser and left there.
pub record Asks (Lawful : EntryLaw) (w : Writing) (sizes_old : List TopSize) (used_old live_old : List Place) (given_old : List Choice) (sizes_new : List TopSize) (used_new live_new : List Place) (given_new : List Choice) : Type 0 where
  pub asks : AsksFor Lawful sizes_old w used_old live_old given_old used_new live_new given_new
  pub sizes : sizes_new ≡ sizes_old
  pub held : AreHeld sizes_old used_old live_old → AreHeld sizes_new used_new live_new

-- A pointer that was made: it is valid, and its places lie on their tops and fit.
pub record IsMade (tops : List TopSize) (bp : Bp) : Type 0 where
  pub types : FitsTypes bp
  pub ok : IsTrue (valid bp)
  pub inside : IsTrue (list_all (is_inside tops) (places_of bp))
  pub fitting : IsFitting tops bp

-- the part is what the definition makes of it, behind asks that were made for it before
pub record IsPart (placed : Placed) (before : List Ask) (part : Part) (heads_old heads_new : List Head) (entries : List Choice) (after : Images) : Type 0 where
  pub error : part.error ≡ placed.error
  pub pointer : part.pointer ≡ placed.pointer
  pub heads : heads_new ≡ heads_old ++ placed.heads
  pub asks : before ++ asks_of entries ≡ placed.asks
  pub after_is : after ≡ placed.images

-- For images that the disks told they tell images afterwards, which are the definition's under every journal that answers
-- the part's asks by the entries that it got.
pub record TellsPart {D : Type 0} (image : D → List ℕ → Type 0) (means : List Choice → Placed) (before : List Ask) (part : Part) (heads_old heads_new : List Head) (entries : List Choice) (new : List D) : Type 0 where
  pub after : Images
  pub told : Tell image new after
  pub meant : (journal : List Choice) → AnswersBy journal entries → IsPart (means journal) before part heads_old heads_new entries after

-- the members are what the definition makes of them, numbered from n
pub record AreMembers (m : Members) (worst : Option Errno) (n : ℕ) (pointers_old pointers_new : List (Option Bp)) (heads_old heads_new : List Head) (entries : List Choice) (after : Images) : Type 0 where
  pub error : worst ≡ worst_of m.errors
  pub pointers : pointers_new ≡ filled_to None members_max (take n pointers_old ++ m.pointers)
  pub heads : heads_new ≡ heads_old ++ m.heads
  pub asks : asks_of entries ≡ m.asks
  pub after_is : after ≡ m.images

pub record TellsMembers {D : Type 0} (image : D → List ℕ → Type 0) (means : List Choice → Members) (worst : Option Errno) (n : ℕ) (pointers_old pointers_new : List (Option Bp)) (heads_old heads_new : List Head) (entries : List Choice) (new : List D) : Type 0 where
  pub after : Images
  pub told : Tell image new after
  pub meant : (journal : List Choice) → AnswersBy journal entries → AreMembers (means journal) worst n pointers_old pointers_new heads_old heads_new entries after

-- the size of a part that has so many levels of headers below it at most
pub record IsPartSize (levels size : ℕ) : Type 0 where
  pub some : 0 < size
  pub whole : size % 512 ≡ 0
  pub deep : size ≤ 512 * 3 ^ levels
