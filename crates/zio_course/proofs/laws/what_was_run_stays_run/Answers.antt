use Rattle.zio_course.proofs.SoFarLemmas.{reaches_next, so_far_held, so_far_round}
use Rattle.zio_course.proofs.laws.what_was_run_stays_run.Goals as goal

pub returns : goal.returns
returns c = record { round = so_far_round; held = so_far_held; course = reaches_next }
