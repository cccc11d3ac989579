use Rattle.std.proofs.Common.{◌∙◌, ap}
use Rattle.zio_types.specs.Errors.{worst_error}
use Rattle.zio_children.specs.RequestKids.{done_error}
use Rattle.zio_children.proofs.KeptErrors.{worst_more}
use Rattle.zio_children.proofs.kids.worst_finished.Goals as goal

pub loop-kid-preserved : goal.loop-kid-preserved
loop-kid-preserved c = worst_more done_error _ _ _ _ _ c.loop-kid-test.true c.loop-kid.invariant (c.worst-error.ensures ∙ ap (worst_error _) c.done_error.ensures)
