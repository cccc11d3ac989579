use Rattle.std.proofs.Common.{arith, ◌/◌, length}
use Rattle.std.proofs.lemmas.Bool.{cases_lt}
use Rattle.zio_turns.proofs.ClimbLemmas.{climb_step, at_place, some_to_lose}
use Rattle.zio_turns.proofs.sums.lower.Goals as goal

pub loop-node-preserved : goal.loop-node-preserved
loop-node-preserved c =
    let climbing = c.loop-node.invariant in
    let side = cases_lt c.loop-node.node (length c.args.nodes.now / 2) in
    climb_step c.requires.sums climbing c.loop-node-test.true
    (omega (arith, some_to_lose climbing c.loop-node-test.true c.requires.some side))
    (λ q. omega (arith, at_place climbing q))
