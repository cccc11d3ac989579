use Rattle.std.proofs.Common.{◌≡◌, List, [], length, drop, drop_of_length-le, ap, arith}
use Rattle.zio_groups.specs.LeafQueues.{Waits}
use Rattle.zio_turns.specs.AtLeaves.{eligible_from}
use Rattle.zio_turns.proofs.EligibleLemmas.{none_eligible}
use Rattle.zio_turns.proofs.leaf_queues.Queues.eligible.Goals as goal

pub returns-clause-none : goal.returns-clause-none
returns-clause-none c = λ order none.
    let leaves = c.args.self.now.leaves.items in
    let gone : drop c.loop-leaf.leaf leaves ≡ [] = drop_of_length-le leaves (omega (arith, c.args.self.now.leaves.ok.0)) in
    let rest : length (eligible_from c.loop-leaf.leaf (drop c.loop-leaf.leaf leaves)) ≡ 0 =
    ap (λ (qs : List Waits). length (eligible_from c.loop-leaf.leaf qs)) gone in
    none_eligible 0 leaves order.idle (omega (arith, rest, c.loop-leaf.invariant.counted, none))
