use Rattle.zio_turns.proofs.GroupMoves.{IsTelling}
use Rattle.zio_turns.proofs.group.tell_answers.Given as goal

abbrev pub invariant-loop-answer : goal.invariant-loop-answer
invariant-loop-answer g l =
    IsTelling g.N.NodeFacts.nodes g.N.Staged.over l.fn.answers l.initial.turns.nodes l.initial.turns.line l.turns.nodes l.turns.line
    l.answer-iterator
