use Rattle.std.proofs.Common.{arith, length-set}
use Rattle.zio_mirror.proofs.PlanLemmas.{order_more, rotated_from_each}
use Rattle.zio_mirror.proofs.plan.rotated.Goals as goal

pub loop-i-preserved : goal.loop-i-preserved
loop-i-preserved c = record {
  room = simp length-set c.loop-i.invariant.room;
  placed = rw c.round_to.ensures (order_more c.args.n c.args.first c.loop-i.i c.loop-i.order (omega arith) c.loop-i.invariant.placed);
}

pub returns : goal.returns
returns c = rotated_from_each c.args.n c.args.first c.loop-i.order c.loop-i.invariant.room c.requires.most c.requires.first (λ k h. c.loop-i.invariant.placed k (omega arith))
