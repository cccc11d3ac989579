use Rattle.zio_course.proofs.RunnableLemmas.{batch_runnable}
use Rattle.zio_course.proofs.laws.an_orderly_batch_is_runnable.Goals as goal

pub returns : goal.returns
returns c = batch_runnable
