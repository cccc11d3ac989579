use Rattle.zio_trace.proofs.TraceCases.{again_case}
use Rattle.zio_trace.proofs.examples.a_write_is_tried_again.Goals as goal

pub returns : goal.returns
returns c = again_case
