use Rattle.zio_plain.specs.Settlings.{named_in}
use Rattle.zio_plain.proofs.SettlingLemmas.{IsRunning}
use Rattle.zio_plain.proofs.trees.settle_trees.Given as goal

abbrev pub invariant-loop-tree : goal.invariant-loop-tree
invariant-loop-tree g l =
    IsRunning g.W.OwnWork.tells g.W.OwnWork.runs g.W.OwnWork.fresh g.W.OwnWork.given (g.W.OwnWork.moves (named_in l.fn.trees)) l.failmode l.fn.trees l.tree-iterator l.left
    l.fn.ends.finished l.ends.finished l.fn.ends.freed l.ends.freed l.fn.works l.works
