-- What operations on leaves leave alone.
use Rattle.std.specs.Prelude.{◌≡◌, ℕ, ◌+◌, ◌<◌, ◌≤◌, List, length, slice_get, Contains}
use Rattle.std.specs.List.{flat_map, AllByRecursion}
use Rattle.std.specs.Prelude.{map}
use Rattle.zio_types.specs.declared.place.Place.{Place}
use Rattle.zio_cksum.specs.Blocks.{leaves_of, spot_in}
use Rattle.zio_cksum.specs.Images.{Images, Setting, Spot, image_of}

-- one of the spots has this byte of this leaf
pub record IsCovered (spots : List Spot) (leaf at : ℕ) : Type 0 where
  pub spot : Spot
  pub listed : Contains spots spot
  pub same_leaf : spot.leaf ≡ leaf
  pub from : spot.at ≤ at
  pub below : at < spot.at + spot.span

-- each spot lies on its image to its end
abbrev pub FitSpots : List Spot → Images → Type 0
FitSpots spots images = AllByRecursion (λ (spot : Spot). spot.at + spot.span ≤ length (image_of images spot.leaf)) spots

-- each spot has room for so many bytes
abbrev pub HaveRoom : ℕ → List Spot → Type 0
HaveRoom len spots = AllByRecursion (λ (spot : Spot). len ≤ spot.span) spots

-- the images have the sizes that they had, and each byte that no spot covers
pub record SameOutside (spots : List Spot) (old new : Images) : Type 0 where
  pub sizes : (leaf : ℕ) → length (image_of new leaf) ≡ length (image_of old leaf)
  pub bytes : (leaf at : ℕ) → ¬ IsCovered spots leaf at →
      slice_get (image_of new leaf) at ≡ slice_get (image_of old leaf) at

-- where the copies of a block at these places lie
abbrev pub spots_of : Setting → List Place → List Spot
spots_of s places = flat_map (λ p. map (spot_in p) (leaves_of s p)) places
