use Rattle.zio_course.proofs.ClearLemmas.{suspended_round}
use Rattle.zio_course.proofs.laws.a_clear_is_a_round_of_the_course.Goals as goal

pub returns : goal.returns
returns c = suspended_round
