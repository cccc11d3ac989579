use Rattle.std.proofs.lemmas.Result.{on_ok_weaker}
use Rattle.zio_turns.specs.Acts.{with_ties}
use Rattle.zio_turns.proofs.Requeue.{load_more, root_handed}
use Rattle.zio_turns.proofs.Shelves.{all_with}
use Rattle.zio_turns.proofs.turns.Turns.add_root.Goals as goal

pub returns-clause-hands : goal.returns-clause-hands
returns-clause-hands g c =
    on_ok_weaker c.queue_up.result
    (λ q. root_handed g.N.NodeFacts.nodes c.args.self.now.nodes c.add.new.nodes c.args.self.now.line c.queue_up.new.line c.in_ok-key.key
    c.args.tree c.args.child c.args.node c.new_ties-ties.result c.in_ok-key.ensures.free c.in_ok-key.ensures.added
    c.new_ties-ties.ensures q)
    c.queue_up.ensures

pub returns-clause-over : goal.returns-clause-over
returns-clause-over g c = λ tops all over.
    on_ok_weaker c.queue_up.result
    (λ q. all_with (g.N.Staged.over tops) c.args.self.now.nodes c.add.new.nodes c.in_ok-key.key
    (with_ties c.args.node c.new_ties-ties.result) c.in_ok-key.ensures.added over all)
    c.queue_up.ensures

pub returns-clause-load : goal.returns-clause-load
returns-clause-load g c =
    on_ok_weaker c.queue_up.result
    (λ q. load_more g.N.NodeFacts.nodes.left c.args.self.now.nodes c.add.new.nodes c.args.self.now.line c.queue_up.new.line
    c.in_ok-key.key (with_ties c.args.node c.new_ties-ties.result) c.in_ok-key.ensures.free c.in_ok-key.ensures.added q)
    c.queue_up.ensures
