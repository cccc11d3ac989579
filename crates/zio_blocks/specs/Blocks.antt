-- Blocks that are placed and written, over any disks and any chooser of places.
use Rattle.std.specs.Prelude.{◌≡◌, ℕ, ◌≤◌, List, ◌++◌, length, find, Some, IsTrue}
use Rattle.std.specs.List.{AllByRecursion}
use Rattle.zio_types.specs.declared.place.Place.{Place}
use Rattle.zio_types.specs.declared.place.Top.{Top}
use Rattle.zio_types.specs.declared.place.TopSize.{TopSize}
use Rattle.zio_types.specs.Choices.{Choice, same_ask}
use Rattle.zio_types.specs.Places.{SamePlaces, is_lawful_top}
use Rattle.zio_blkptr.specs.declared.pointer.TheConstants.{SECTOR_END, TOP_END}
use Rattle.zio_cksum.specs.Images.{Images, Setting}
use Rattle.zio_gang.specs.Attempts.{placed_tree}
use Rattle.zio_gang.specs.Journals.{asks_of}
use Rattle.zio_gang.specs.Trees.{size_of}
use Rattle.zio_gang.specs.Writes.{place_block}
use Rattle.zio_gang.specs.Writes.{Writing as Terms}
use Rattle.zio_disks.specs.Disks.{Tell}
use Rattle.zio_blocks.specs.Choosers.{EntryLaw, given_since, taken_by_all}
use Rattle.zio_blocks.specs.declared.place.PlacedBlock.{PlacedBlock}
use Rattle.zio_blocks.specs.declared.place.Writing.{Writing}

-- Tops whose places stand in pointers: not too many, each of a lawful unit and not too long.
pub record HavePointers (tops : List Top) : Type 0 where
  pub few : length tops ≤ TOP_END
  pub lawful : AllByRecursion (λ (top : Top). IsTrue (is_lawful_top (size_of top))) tops
  pub short : AllByRecursion (λ (top : Top). top.sectors ≤ SECTOR_END) tops

-- what all parts of the block's write share
abbrev pub terms_of : Setting → Writing → Terms
terms_of s w = record {
  setting = s;
  request = w.request;
  round = w.round;
  attempt = w.attempt;
  sum = w.sum;
  copies = w.copies;
  birth = w.birth;
}

-- the entry was asked by this write
pub record IsOf (w : Writing) (entry : Choice) : Type 0 where
  pub request : entry.asked.key.request ≡ w.request
  pub round : entry.asked.key.round ≡ w.round
  pub attempt : entry.asked.key.attempt ≡ w.attempt

-- What a write asked of the chooser and got: entries behind those that were given before, which meet what the chooser's
-- entries do beside the places in use, and what they took is live and in use.
pub record AsksFor (Lawful : EntryLaw) (sizes : List TopSize) (w : Writing) (used_old live_old : List Place) (given_old : List Choice) (used_new live_new : List Place) (given_new : List Choice) : Type 0 where
  pub behind : given_new ≡ given_old ++ given_since given_old given_new
  pub lawful : Lawful sizes used_old (given_since given_old given_new)
  pub own : AllByRecursion (IsOf w) (given_since given_old given_new)
  pub used : SamePlaces used_new (taken_by_all (given_since given_old given_new) ++ used_old)
  pub live : SamePlaces live_new (taken_by_all (given_since given_old given_new) ++ live_old)

-- the journal answers the ask of each of these entries by that entry
abbrev pub AnswersBy : List Choice → List Choice → Type 0
AnswersBy journal entries = AllByRecursion (λ (e : Choice). find (λ (c : Choice). same_ask c.asked e.asked) journal ≡ Some e) entries

-- the block is what the definition of a placed write makes of it, with its choices, over these images
pub record IsPlacedBy (journal : List Choice) (terms : Terms) (bytes : List ℕ) (images : Images) (placed : PlacedBlock) (entries : List Choice) (after : Images) : Type 0 where
  pub error : placed.error ≡ (place_block journal terms bytes images).error
  pub tree : placed.tree ≡ placed_tree ((place_block journal terms bytes images).pointer) (place_block journal terms bytes images)
  pub asks : asks_of entries ≡ (place_block journal terms bytes images).asks
  pub after_is : after ≡ (place_block journal terms bytes images).images

-- For images that the disks told they tell images afterwards, which are the definition's under every journal that
-- answers the write's asks by the entries that it got.
pub record Places {D : Type 0} (image : D → List ℕ → Type 0) (terms : Terms) (bytes : List ℕ) (images : Images) (placed : PlacedBlock) (entries : List Choice) (new : List D) : Type 0 where
  pub after : Images
  pub told : Tell image new after
  pub meant : (journal : List Choice) → AnswersBy journal entries → IsPlacedBy journal terms bytes images placed entries after
