use Rattle.std.proofs.Common.{◌≡◌, ◌++◌}
use Rattle.std.specs.List.{AllByRecursion}
use Rattle.zio_exchange.specs.Wholes.{IsWhole}
use Rattle.zio_graph.specs.Ends.{left_in}
use Rattle.zio_graph.proofs.ends.left_of.Given as goal

abbrev pub invariant-loop-tree : goal.invariant-loop-tree
invariant-loop-tree l =
    (l.left.items ++ left_in l.tree-iterator ≡ left_in l.fn.trees.items) × AllByRecursion IsWhole l.left.items
