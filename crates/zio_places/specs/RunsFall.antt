-- Each side of a fork has fewer sectors than the fork.
use Rattle.std.specs.Prelude.{◌≤◌, max, length}
use Rattle.std.proofs.Common.{arith, length-append}
use Rattle.zio_places.specs.declared.runs.RunNode.{RunNode}
use Rattle.zio_places.specs.declared.runs.RunNode.TheVariants.{Leaf, Fork}
use Rattle.zio_places.specs.declared.runs.FreeRuns.TheDeep.{deep-RunNode}
use Rattle.zio_places.specs.FreeRuns.{flags_in, IsSummed}

pub depth_le-length-flags : (n : RunNode) → IsSummed n → max (deep-RunNode n) 0 ≤ length (flags_in n)
depth_le-length-flags (Leaf word summary) h = omega arith
depth_le-length-flags (Fork left right summary) h = omega (arith, length-append left.value right.value, h.left_filled, h.right_filled)
