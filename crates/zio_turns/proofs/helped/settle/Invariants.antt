use Rattle.zio_turns.proofs.HelpMoves.{IsSettling}
use Rattle.zio_turns.proofs.helped.settle.Given as goal

abbrev pub invariant-loop-one : goal.invariant-loop-one
invariant-loop-one g l =
    IsSettling g.N.NodeFacts.nodes g.N.Staged.over g.N.Staged.fits l.fn.rest l.fn.turns.nodes l.fn.turns.line l.turns.nodes l.turns.line
    l.one-iterator
