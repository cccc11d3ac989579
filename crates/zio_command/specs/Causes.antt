-- Why a script isn't run over the images of a command, and what all images have where it is run.
use Rattle.std.specs.Prelude.{◌≡◌, ◌<◌, ◌+◌, ◌⊎◌, ℕ, List, length, map, take}
use Rattle.std.specs.List.{AllByRecursion}
use Rattle.zio_outside.specs.Outside.{Rose, StaysHome}
use Rattle.zio_script.specs.declared.script.Script.{Script}
use Rattle.zio_cksum.specs.Images.{Images}
use Rattle.zio_command.specs.Headline.{TellEach}
use Rattle.zio_command.specs.Outcomes.{HasLawfulSize, counted_times}
use Rattle.zio_command.specs.Seen.{ShelfSeen}
use Rattle.zio_command.specs.Shelves.{IsFirstUnlawful}
use Rattle.zio_command.specs.Tops.{HaveImages, IsFirstMissing, leaves_of}

-- all images were fetched, and each has a lawful size
pub record AreMeasured (names : List (List ℕ)) (old new : ShelfSeen) : Type 0 where
  pub steady : new.faults ≡ old.faults
  pub fetches : new.fetches ≡ counted_times (length names) old.fetches
  pub last : HasLawfulSize new.last_size
  pub lawful : (images : Images) → old.tells → TellEach old.image names images → AllByRecursion HasLawfulSize (map length images)

-- and each leaf of the script's tops has one of them
pub record AreFit (script : Script) (names : List (List ℕ)) (old new : ShelfSeen) : Type 0 where
  pub measured : AreMeasured names old new
  pub leaves : HaveImages (length names) (leaves_of script.tops)

-- the fetch of this leaf's image failed, after those of the leaves before it
pub record IsUnfetched (names : List (List ℕ)) (old new : ShelfSeen) (leaf : ℕ) : Type 0 where
  pub there : leaf < length names
  pub rose : Rose old.faults new.faults
  pub fetches : new.fetches ≡ counted_times leaf old.fetches
  pub before : (images : Images) → old.tells → TellEach old.image names images → AllByRecursion HasLawfulSize (take leaf (map length images))

-- the image of this leaf is the first whose size is out of range
pub record IsUnlawful (names : List (List ℕ)) (old new : ShelfSeen) (leaf : ℕ) : Type 0 where
  pub there : leaf < length names
  pub steady : new.faults ≡ old.faults
  pub fetches : new.fetches ≡ counted_times (leaf + 1) old.fetches
  pub size : ¬ HasLawfulSize new.last_size
  pub first : (images : Images) → old.tells → TellEach old.image names images → IsFirstUnlawful (map length images) leaf

-- all images have lawful sizes, and this is the first leaf of the script, in its order, without one
pub record IsMissing (script : Script) (names : List (List ℕ)) (old new : ShelfSeen) (leaf : ℕ) : Type 0 where
  pub measured : AreMeasured names old new
  pub first : IsFirstMissing (length names) (leaves_of script.tops) leaf

-- the three causes for which a leaf is blamed
abbrev pub IsLeafCause : Script → List (List ℕ) → ShelfSeen → ShelfSeen → ℕ → Type 0
IsLeafCause script names old new leaf =
    IsUnfetched names old new leaf ⊎ IsUnlawful names old new leaf ⊎ IsMissing script names old new leaf

-- no round was begun: all images are as before, and no disk failed
pub record AreUntouched (old new : ShelfSeen) : Type 0 where
  pub disk_faults : new.disk_faults ≡ old.disk_faults
  pub home : old.tells → StaysHome old.image new.image old.out new.out
