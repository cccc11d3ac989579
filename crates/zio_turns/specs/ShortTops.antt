-- What ends with the tops, and tops that a device queue can take all of.
use Rattle.std.specs.Prelude.{ℕ, ◌+◌, ◌*◌, ◌^◌, ◌≤◌, List}
use Rattle.std.specs.List.{AllByRecursion}
use Rattle.zio_types.specs.declared.place.Top.{Top}
use Rattle.zio_types.specs.Places.{sector_size}
use Rattle.zio_cksum.specs.Images.{Spot}

-- it ends where the longest of the tops does, or before
abbrev pub EndsWithTops : List Top → Spot → Type 0
EndsWithTops tops spot = (most : ℕ) → AllByRecursion (λ (top : Top). top.sectors ≤ most) tops → spot.at + spot.span ≤ most * sector_size

-- a queue can take what lies on these tops
abbrev pub AreShort : List Top → Type 0
AreShort tops = AllByRecursion (λ (top : Top). top.sectors ≤ 2 ^ 39) tops
