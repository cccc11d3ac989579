use Rattle.std.proofs.Common.{List, arith, sym, subst, ◌∙◌}
use Rattle.zio_turns.specs.declared.trees.TreeState.{TreeState}
use Rattle.zio_turns.proofs.BeginMoves.{AreBeginning, begun_one, none_begun}
use Rattle.zio_turns.proofs.begin.begin_trees.Goals as goal

pub loop-whole-init : goal.loop-whole-init
loop-whole-init g c =
    subst (λ (states : List TreeState). AreBeginning g.N.NodeFacts.nodes g.N.Staged.over g.N.Staged.tree_over c.args.round c.args.failmode
    c.args.wholes c.args.turns.now.nodes c.args.turns.now.line states c.into_iter-whole-iterator.result) (sym c.new-trees.ensures.items)
    (none_begun g.N.NodeFacts.nodes g.N.Staged.over g.N.Staged.tree_over c.args.round c.args.failmode c.args.wholes c.args.turns.now.nodes
    c.args.turns.now.line c.into_iter-whole-iterator.result c.requires.empty c.requires.idle
    (c.into_iter-whole-iterator.ensures.into_iter_gives ∙ c.into_rest-whole-items.ensures))

pub loop-whole-preserved : goal.loop-whole-preserved
loop-whole-preserved g c =
    begun_one g.N.NodeFacts.nodes g.N.Staged.over g.N.Staged.tree_over c.args.round c.args.failmode c.args.wholes c.loop-whole.turns.nodes
    c.begin_attempt.new.turns.nodes c.loop-whole.turns.line c.begin_attempt.new.turns.line c.loop-whole.trees.items c.in-Some.whole
    c.loop-whole.whole-iterator c.next.new.self c.loop-whole.invariant c.in-Some.ensures.steps c.len.result c.push.new.self.items
    (omega (arith, c.len.ensures)) c.in_ok-push.ensures.items c.in_ok-begin_attempt.ensures.begins
    c.in_ok-begin_attempt.ensures.over

pub returns-clause-over : goal.returns-clause-over
returns-clause-over g c = λ tops all. (c.loop-whole.invariant.inside tops all).0
