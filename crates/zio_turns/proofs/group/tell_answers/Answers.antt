use Rattle.std.proofs.Common.{ℕ, List, subst}
use Rattle.zio_turns.specs.Rounds.{ComesBack}
use Rattle.zio_turns.proofs.GroupMoves.{next_at_leaf, telling_goes}
use Rattle.zio_turns.proofs.group.tell_answers.Goals as goal

pub answered-requires : goal.answered-requires
answered-requires g c =
    next_at_leaf g.N.NodeFacts.nodes c.args.turns.now.nodes c.args.turns.now.line c.args.answers c.loop-answer.turns.nodes
    c.loop-answer.turns.line c.in-Some.answer c.loop-answer.answer-iterator c.next.new.self c.requires c.loop-answer.invariant.come
    c.in-Some.ensures.steps

pub loop-answer-preserved : goal.loop-answer-preserved
loop-answer-preserved g c =
    telling_goes g.N.NodeFacts.nodes g.N.Staged.over c.args.answers c.args.turns.now.nodes c.args.turns.now.line c.loop-answer.turns.nodes
    c.answered.new.self.nodes c.loop-answer.turns.line c.answered.new.self.line c.in-Some.answer c.loop-answer.answer-iterator
    c.next.new.self c.loop-answer.invariant c.in-Some.ensures.steps
    (subst (λ (bytes : List ℕ). ComesBack g.N.NodeFacts.nodes c.loop-answer.turns.nodes c.loop-answer.turns.line c.answered.new.self.nodes
    c.answered.new.self.line c.in-Some.answer.ticket c.in-Some.answer.error bytes) c.in_ok-bytes.ensures c.in_ok-answered.ensures.comes_back)
    c.in_ok-answered.ensures.over c.in_ok-answered.ensures.less
