use Rattle.zio_course.proofs.LeftLemmas.{left_runnable}
use Rattle.zio_course.proofs.OverLemmas.{batch_over}
use Rattle.zio_course.proofs.laws.a_round_leaves_runnable_trees.Goals as goal

pub returns : goal.returns
returns c = record { over = batch_over; left = left_runnable }
