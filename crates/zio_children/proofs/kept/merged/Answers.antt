use Rattle.zio_children.proofs.KeptMerging.{merge_step}
use Rattle.zio_children.proofs.kept.merged.Goals as goal

pub loop-child-preserved : goal.loop-child-preserved
loop-child-preserved c =
    merge_step _ _ _ _ _ _ _ _ _ c.loop-child-test.true c.loop-child.invariant c.in_ok-rest.ensures (c.in_ok-push.ensures).ok
