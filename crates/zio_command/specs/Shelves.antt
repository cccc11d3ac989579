-- The images of a command and their shelf: what fetching all of them leaves, and what giving them back leaves.
use Rattle.std.specs.Prelude.{◌≡◌, ◌<◌, ◌↔◌, ◌⊎◌, ℕ, List, [], ◌∷◌, drop, length, map, slice_index_or, take}
use Rattle.std.specs.List.{AllByRecursion, Contains}
use Rattle.zio_outside.specs.Outside.{count_max}
use Rattle.zio_outside.specs.declared.written.Written.{Written}
use Rattle.zio_cksum.specs.Images.{Images}
use Rattle.zio_disks.specs.Disks.{Tell}
use Rattle.zio_command.specs.Headline.{TellEach}
use Rattle.zio_command.specs.Outcomes.{HasLawfulSize}
use Rattle.zio_command.specs.Words.{AreNames}

-- ---- disks

-- each disk has the name as its home
abbrev pub AreAt : {D : Type 0} → (D → List ℕ → Type 0) → List D → List (List ℕ) → Type 0
AreAt home [] [] = Unit {0}
AreAt home [] (name ∷ names) = ⊥
AreAt home (disk ∷ disks) [] = ⊥
AreAt home (disk ∷ disks) (name ∷ names) = home disk name × AreAt home disks names

-- no disk has failed since its fetch, and each is measured
pub record AreFresh {D : Type 0} (bytes faults faults_at_fetch : D → ℕ) (disks : List D) : Type 0 where
  pub lawful : AllByRecursion HasLawfulSize (map bytes disks)
  pub unfailed : map faults_at_fetch disks ≡ map faults disks
  pub below : AllByRecursion (λ n. n < count_max) (map faults disks)

-- the disks that stand in the second list behind the first
abbrev pub added : {D : Type 0} → List D → List D → List D
added old new = drop (length old) new

-- ---- sizes

-- the first size out of range stands there
pub record IsFirstUnlawful (sizes : List ℕ) (leaf : ℕ) : Type 0 where
  pub there : leaf < length sizes
  pub before : AllByRecursion HasLawfulSize (take leaf sizes)
  pub unlawful : ¬ HasLawfulSize (slice_index_or sizes leaf 0)

-- ---- the shelf

-- the disks of these names leave the shelf
pub record GoOut (names : List (List ℕ)) (old new : List ℕ → List ℕ → Type 0) (old_out new_out : List ℕ → Type 0)
    : Type 0 where
  pub images : (other image : List ℕ) → new other image ↔ (old other image × ¬ Contains names other)
  pub out : (other : List ℕ) → new_out other ↔ (old_out other ⊎ Contains names other)

-- the disks of these names come home with these images
pub record ComeHome (names : List (List ℕ)) (images : Images) (old new : List ℕ → List ℕ → Type 0)
    (old_out new_out : List ℕ → Type 0) : Type 0 where
  pub told : TellEach new names images
  pub others : (other image : List ℕ) → ¬ Contains names other → new other image ↔ old other image
  pub out : (other : List ℕ) → new_out other ↔ (old_out other × ¬ Contains names other)

-- The disks of these names are out, each with its name as its home and the image that the shelf told of it.
pub record AreFetched {D : Type 0} (home disk_image : D → List ℕ → Type 0) (names : List (List ℕ)) (disks : List D)
    (old new : List ℕ → List ℕ → Type 0) (old_out new_out : List ℕ → Type 0) : Type 0 where
  pub images : Images
  pub before : TellEach old names images
  pub told : Tell disk_image disks images
  pub homes : AreAt home disks names
  pub gone : GoOut names old new old_out new_out

-- disks with these names as their homes, which are out, and with these images
pub record AreOut {D : Type 0} (home disk_image : D → List ℕ → Type 0) (out : List ℕ → Type 0) (names : List (List ℕ))
    (images : Images) (disks : List D) : Type 0 where
  pub apart : AreNames names
  pub homes : AreAt home disks names
  pub told : Tell disk_image disks images
  pub out_now : AllByRecursion out names

-- the disks of other names stay where they are with their images, those of these names are at home
pub record KeepOthers (names : List (List ℕ)) (old new : List ℕ → List ℕ → Type 0) (old_out new_out : List ℕ → Type 0)
    : Type 0 where
  pub images : (other image : List ℕ) → ¬ Contains names other → new other image ↔ old other image
  pub out : (other : List ℕ) → new_out other ↔ old_out other
  pub still : (before : Images) → TellEach old names before → (after : Images) × TellEach new names after

-- ---- what is kept through a crash

-- under each of these names is kept what its disk keeps
abbrev pub KeepEach : {D : Type 0} → (D → List ℕ → List Written → Type 0) → (List ℕ → List ℕ → List Written → Type 0)
    → List (List ℕ) → List D → Type 0
KeepEach disk_keeps keeps [] [] = Unit {0}
KeepEach disk_keeps keeps [] (disk ∷ disks) = ⊥
KeepEach disk_keeps keeps (name ∷ names) [] = ⊥
KeepEach disk_keeps keeps (name ∷ names) (disk ∷ disks) =
    ((stable : List ℕ) (ranges : List Written) → keeps name stable ranges ↔ disk_keeps disk stable ranges)
    × KeepEach disk_keeps keeps names disks

-- what disks keep comes home under these names, and what is kept under others stays
pub record KeptComeHome {D : Type 0} (disk_keeps : D → List ℕ → List Written → Type 0) (names : List (List ℕ))
    (disks : List D) (old new : List ℕ → List ℕ → List Written → Type 0) : Type 0 where
  pub each : KeepEach disk_keeps new names disks
  pub others : (other stable : List ℕ) (ranges : List Written) → ¬ Contains names other →
      new other stable ranges ↔ old other stable ranges

-- Disks of which this holds are at home under these names, with their images and with what they keep.
pub record AreLeft {D : Type 0} (disk_image : D → List ℕ → Type 0) (disk_keeps : D → List ℕ → List Written → Type 0)
    (holds : List D → Type 0) (names : List (List ℕ)) (image : List ℕ → List ℕ → Type 0)
    (keeps : List ℕ → List ℕ → List Written → Type 0) : Type 0 where
  pub disks : List D
  pub images : Images
  pub left : holds disks
  pub told : Tell disk_image disks images
  pub stored : TellEach image names images
  pub kept : KeepEach disk_keeps keeps names disks
