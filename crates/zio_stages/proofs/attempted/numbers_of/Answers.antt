use Rattle.zio_stages.proofs.KidTreeLemmas.{roots_more}
use Rattle.zio_stages.proofs.attempted.numbers_of.Goals as goal

pub loop-tree-preserved : goal.loop-tree-preserved
loop-tree-preserved c =
    roots_more c.args.trees.now c.loop-tree.tree-index c.number.result c.tree-item.result c.loop-tree.numbers.items
    c.push.new.self.items c.loop-tree.invariant c.loop-tree-test.true c.tree-item.is c.number.ensures c.in_ok-push.ensures.items
