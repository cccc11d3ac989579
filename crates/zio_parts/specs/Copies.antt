-- Where the copies of a block lie, by the tops of a pool.
use Rattle.std.specs.Prelude.{ℕ, ◌^◌, ◌<◌, ◌≤◌, List, length, map, slice_get}
use Rattle.std.specs.List.{AllByRecursion, flat_map}
use Rattle.zio_types.specs.declared.place.Place.{Place}
use Rattle.zio_types.specs.declared.place.Top.{Top}
use Rattle.zio_cksum.specs.Blocks.{leaves_of_top, spot_in}
use Rattle.zio_cksum.specs.Headers.{offset_of}
use Rattle.zio_cksum.specs.Images.{Spot}
use Rattle.zio_parts.specs.declared.copies.Target.{Target}

-- the place's leaves, in the order of the top
abbrev pub leaves_at : List Top → Place → List ℕ
leaves_at tops p = leaves_of_top (slice_get tops p.top)

-- the copies at these places, place after place
abbrev pub copies_at : List Top → List Place → List Spot
copies_at tops places = flat_map (λ p. map (spot_in p) (leaves_at tops p)) places

abbrev pub spot_at : Target → Spot
spot_at t = spot_in t.place t.leaf

-- a place with one to four leaves, whose first byte has a number
pub record IsMirrored (tops : List Top) (p : Place) : Type 0 where
  pub least : 1 ≤ length (leaves_at tops p)
  pub most : length (leaves_at tops p) ≤ 4
  pub fits : offset_of p < 2 ^ 64

abbrev pub AreMirrored : List Top → List Place → Type 0
AreMirrored tops places = AllByRecursion (IsMirrored tops) places
