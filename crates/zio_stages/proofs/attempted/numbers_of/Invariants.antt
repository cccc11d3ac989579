use Rattle.std.proofs.Common.{◌≡◌, take}
use Rattle.zio_exchange.specs.Wholes.{roots_in}
use Rattle.zio_stages.proofs.attempted.numbers_of.Given as goal

abbrev pub invariant-loop-tree : goal.invariant-loop-tree
invariant-loop-tree l = l.numbers.items ≡ roots_in (take l.tree-index l.trees)
