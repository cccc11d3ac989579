use Rattle.zio_course.proofs.StepLemmas.{batch_round}
use Rattle.zio_course.proofs.laws.a_batch_is_a_round_of_the_course.Goals as goal

pub returns : goal.returns
returns c = batch_round
