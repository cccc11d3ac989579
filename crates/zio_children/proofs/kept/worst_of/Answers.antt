use Rattle.zio_children.proofs.KeptErrors.{worst_step}
use Rattle.zio_children.proofs.kept.worst_of.Goals as goal

pub loop-child-preserved : goal.loop-child-preserved
loop-child-preserved c = worst_step _ _ _ _ _ c.loop-child-test.true c.loop-child.invariant c.worst-error.ensures
