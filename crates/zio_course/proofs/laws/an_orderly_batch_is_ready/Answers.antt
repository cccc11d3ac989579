use Rattle.zio_course.proofs.ReadyLemmas.{batch_ready}
use Rattle.zio_course.proofs.laws.an_orderly_batch_is_ready.Goals as goal

pub returns : goal.returns
returns c = batch_ready
