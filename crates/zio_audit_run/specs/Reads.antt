-- What is read of disks, and what is fetched.
use Rattle.std.specs.Prelude.{◌≡◌, ◌<◌, ℕ, List, length, map}
use Rattle.std.specs.List.{AllByRecursion}
use Rattle.zio_outside.specs.Outside.{count_max}
use Rattle.zio_cksum.specs.Images.{Images}
use Rattle.zio_disks.specs.Disks.{Tell}

-- no disk has failed since its fetch
pub record AreUnfailed {D : Type 0} (faults faults_at_fetch : D → ℕ) (disks : List D) : Type 0 where
  pub unfailed : map faults_at_fetch disks ≡ map faults disks
  pub below : AllByRecursion (λ n. n < count_max) (map faults disks)

-- the disks tell the images that they told
abbrev pub TellStill : {D : Type 0} → (D → List ℕ → Type 0) → List D → List D → Type 0
TellStill image old new = (images : Images) → Tell image old images → Tell image new images

-- the files have the sizes of these disks, and are what these tell
pub record AreBytesOf {D : Type 0} (bytes : D → ℕ) (image : D → List ℕ → Type 0) (disks : List D) (files : Images) : Type 0 where
  pub sizes : map length files ≡ map bytes disks
  pub told : (images : Images) → Tell image disks images → files ≡ images
