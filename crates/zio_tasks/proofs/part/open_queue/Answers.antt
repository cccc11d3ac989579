use Rattle.std.proofs.Common.{arith, ◌∙◌}
use Rattle.zio_tasks.proofs.Moves.{begins, grow_goes, grown}
use Rattle.zio_tasks.proofs.part.open_queue.Goals as goal

pub ruled-requires-clause-rule : goal.ruled-requires-clause-rule
ruled-requires-clause-rule g c = begins

pub another-spare-requires-clause-rule : goal.another-spare-requires-clause-rule
another-spare-requires-clause-rule g c = grow_goes _ _ _ c.loop.invariant.2 c.loop.invariant.1

pub loop-preserved : goal.loop-preserved
loop-preserved g c = (
  (c.another-spare.ensures.queue.0.0 ∙ c.loop.invariant.0.0, c.another-spare.ensures.queue.0.2 ∙ c.loop.invariant.0.1),
  omega arith,
  grown _ _ c.loop.counter c.loop.invariant.2 c.another-spare.ensures.rule.0,
)
