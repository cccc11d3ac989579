-- The tops of a pool as an engine lends them.
use Rattle.std.specs.Prelude.{◌^◌, ◌<◌, ◌≤◌, List, length}
use Rattle.std.specs.List.{AllByRecursion}
use Rattle.zio_types.specs.declared.place.Top.{Top}

-- one to four leaves, and no more sectors than have a place in a pointer
pub record IsTop (top : Top) : Type 0 where
  pub some : 1 ≤ length top.leaves
  pub few : length top.leaves ≤ 4
  pub images : AllByRecursion (λ n. n < 16) top.leaves
  pub sectors : top.sectors ≤ 2 ^ 39

pub record AreTops (tops : List Top) : Type 0 where
  pub few : length tops ≤ 16
  pub each : AllByRecursion IsTop tops
