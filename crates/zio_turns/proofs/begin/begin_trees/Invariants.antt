use Rattle.zio_turns.proofs.BeginMoves.{AreBeginning}
use Rattle.zio_turns.proofs.begin.begin_trees.Given as goal

abbrev pub invariant-loop-whole : goal.invariant-loop-whole
invariant-loop-whole g l =
    AreBeginning g.N.NodeFacts.nodes g.N.Staged.over g.N.Staged.tree_over l.round l.failmode l.fn.wholes l.turns.nodes l.turns.line
    l.trees.items l.whole-iterator
