use Rattle.std.proofs.lemmas.Result.{on_ok_weaker}
use Rattle.zio_turns.proofs.TreeMoves.{attempt_begins}
use Rattle.zio_turns.proofs.trees.begin_attempt.Goals as goal

pub returns-clause-begins : goal.returns-clause-begins
returns-clause-begins g c =
    on_ok_weaker c.add_root.result
    (λ hands. attempt_begins g.N.NodeFacts.nodes c.args.turns.now.nodes c.add_root.new.self.nodes c.args.turns.now.line
    c.add_root.new.self.line c.args.round c.args.failmode c.args.tree c.args.attempt c.args.whole c.in-Ok.node hands
    c.in-Ok.ensures.fresh c.in-Ok.ensures.told c.in-Ok.ensures.gave c.in-Ok.ensures.due)
    c.add_root.ensures.hands
