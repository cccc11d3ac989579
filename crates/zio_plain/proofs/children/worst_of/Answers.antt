use Rattle.zio_plain.proofs.HandedLemmas.{worst_step}
use Rattle.zio_plain.proofs.children.worst_of.Goals as goal

pub loop-child-preserved : goal.loop-child-preserved
loop-child-preserved c = worst_step _ _ _ _ _ c.loop-child-test.true c.loop-child.invariant c.worst-error.ensures
