use Rattle.std.proofs.Common.{arith}
use Rattle.zio_turns.proofs.SumLemmas.{find_root, find_left, find_right, find_leaf}
use Rattle.zio_turns.proofs.sums.place_of.Goals as goal

pub loop-node-init : goal.loop-node-init
loop-node-init c = record { root = omega arith; finding = find_root c.args.nodes.now c.args.k c.requires.sums c.requires.within }

pub loop-node-preserved-then-nodes-node : goal.loop-node-preserved-then-nodes-node
loop-node-preserved-then-nodes-node c =
    let found = c.loop-node.invariant in
    record {
      root = omega arith;
      finding = find_right c.requires.sums found.root c.loop-node-test.true found.finding (omega arith) c.if-nodes-node.true;
    }

pub loop-node-preserved : goal.loop-node-preserved
loop-node-preserved c =
    record {
      root = omega arith;
      finding = find_left c.loop-node-test.true c.loop-node.invariant.finding (omega arith) c.if-nodes-node.false;
    }

pub returns-clause-before : goal.returns-clause-before
returns-clause-before c = (find_leaf c.requires.sums c.loop-node-test.false c.loop-node.invariant.finding).before

pub returns-clause-passes : goal.returns-clause-passes
returns-clause-passes c = (find_leaf c.requires.sums c.loop-node-test.false c.loop-node.invariant.finding).passes
