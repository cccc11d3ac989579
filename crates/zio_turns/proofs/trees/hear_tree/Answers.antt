use Rattle.std.proofs.Common.{Some, None, sym, subst, ◌∙◌}
use Rattle.zio_exchange.specs.declared.outcome.Outcome.{Outcome}
use Rattle.zio_turns.specs.UnderTrees.{TreeGoesOn}
use Rattle.zio_turns.specs.declared.trees.TreeEnd.TheVariants.{Finished, Suspended}
use Rattle.zio_turns.proofs.TreeMoves.{tree_again, tree_finishes, tree_waits, tree_went}
use Rattle.zio_turns.proofs.trees.hear_tree.Goals as goal

pub returns-in_ok-push-in-Finished-clause-goes_on : goal.returns-in_ok-push-in-Finished-clause-goes_on
returns-in_ok-push-in-Finished-clause-goes_on g c =
    subst (λ (o : Outcome _). TreeGoesOn g.N.NodeFacts.nodes c.args.turns.now.nodes c.args.turns.now.line c.args.turns.now.nodes
    c.args.turns.now.line c.args.round c.args.failmode c.args.tree c.args.attempt o (Some Finished)) (sym c.in-Finished.is)
    (tree_finishes g.N.NodeFacts.nodes c.args.turns.now.nodes c.args.turns.now.nodes c.args.turns.now.line c.args.turns.now.line
    c.args.round c.args.failmode c.args.tree c.args.attempt c.in-Finished.finished)

pub returns-then-not-now_alone-clause-goes_on : goal.returns-then-not-now_alone-clause-goes_on
returns-then-not-now_alone-clause-goes_on g c =
    subst (λ (o : Outcome _). TreeGoesOn g.N.NodeFacts.nodes c.args.turns.now.nodes c.args.turns.now.line c.args.turns.now.nodes
    c.args.turns.now.line c.args.round c.args.failmode c.args.tree c.args.attempt o (Some (Suspended c.in-Again.whole))) (sym c.in-Again.is)
    (tree_waits g.N.NodeFacts.nodes c.args.turns.now.nodes c.args.turns.now.nodes c.args.turns.now.line c.args.turns.now.line
    c.args.round c.args.failmode c.args.tree c.args.attempt c.in-Again.whole c.in-Again.bits c.in-Again.pointer
    (sym c.now_alone.ensures ∙ c.if-not-now_alone.true))

pub returns-then-attempt-ge-REEXECUTIONS_MAX-clause-goes_on : goal.returns-then-attempt-ge-REEXECUTIONS_MAX-clause-goes_on
returns-then-attempt-ge-REEXECUTIONS_MAX-clause-goes_on g c =
    subst (λ (o : Outcome _). TreeGoesOn g.N.NodeFacts.nodes c.args.turns.now.nodes c.args.turns.now.line c.args.turns.now.nodes
    c.args.turns.now.line c.args.round c.args.failmode c.args.tree c.args.attempt o (Some (Suspended c.in-Again.whole))) (sym c.in-Again.is)
    (tree_went g.N.NodeFacts.nodes c.args.turns.now.nodes c.args.turns.now.nodes c.args.turns.now.line c.args.turns.now.line
    c.args.round c.args.failmode c.args.tree c.args.attempt c.in-Again.whole c.in-Again.bits c.in-Again.pointer
    c.if-attempt-ge-REEXECUTIONS_MAX.true)

pub returns-in_ok-begin_attempt-in-Again-clause-goes_on : goal.returns-in_ok-begin_attempt-in-Again-clause-goes_on
returns-in_ok-begin_attempt-in-Again-clause-goes_on g c =
    subst (λ (o : Outcome _). TreeGoesOn g.N.NodeFacts.nodes c.args.turns.now.nodes c.args.turns.now.line c.begin_attempt.new.turns.nodes
    c.begin_attempt.new.turns.line c.args.round c.args.failmode c.args.tree c.args.attempt o None) (sym c.in-Again.is)
    (tree_again g.N.NodeFacts.nodes c.args.turns.now.nodes c.begin_attempt.new.turns.nodes c.args.turns.now.line c.begin_attempt.new.turns.line
    c.args.round c.args.failmode c.args.tree c.args.attempt c.in-Again.whole c.in-Again.bits c.in-Again.pointer
    (sym c.now_alone.ensures ∙ c.if-not-now_alone.false) c.if-attempt-ge-REEXECUTIONS_MAX.false c.one_tree.ensures
    c.in_ok-begin_attempt-in-Again.ensures.begins)
