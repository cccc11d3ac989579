use Rattle.std.proofs.Common.{take}
use Rattle.std.specs.List.{AllByRecursion}
use Rattle.zio_exchange.specs.Wholes.{IsWhole}
use Rattle.zio_exchange.proofs.whole.are_whole.Given as goal

abbrev pub invariant-loop-tree : goal.invariant-loop-tree
invariant-loop-tree l = AllByRecursion IsWhole (take l.tree-index l.trees)
