use Rattle.std.proofs.Common.{◌≡◌, take}
use Rattle.std.specs.List.{flat_map}
use Rattle.zio_gang.specs.Trees.{tree_places}
use Rattle.zio_plain.proofs.plain.ends.places_of_all.Given as goal

abbrev pub invariant-loop-tree : goal.invariant-loop-tree
invariant-loop-tree l = l.all.items ≡ flat_map tree_places (take l.tree-index l.trees)
