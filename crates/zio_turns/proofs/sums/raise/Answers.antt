use Rattle.std.proofs.Common.{arith}
use Rattle.zio_turns.proofs.ClimbLemmas.{climb_step, at_place}
use Rattle.zio_turns.proofs.SumLemmas.{no_node_above}
use Rattle.zio_turns.proofs.sums.raise.Goals as goal

pub overflow_add-nodes : goal.overflow_add-nodes
overflow_add-nodes c =
    let climbing = c.loop-node.invariant in
    omega (
      arith,
      climbing.above c.loop-node.node (omega arith),
      no_node_above c.args.nodes.now c.loop-node.node c.requires.sums (omega arith) climbing.inside,
    )

pub loop-node-preserved : goal.loop-node-preserved
loop-node-preserved c =
    let climbing = c.loop-node.invariant in
    climb_step c.requires.sums climbing c.loop-node-test.true (omega arith) (λ q. omega (arith, at_place climbing q))
