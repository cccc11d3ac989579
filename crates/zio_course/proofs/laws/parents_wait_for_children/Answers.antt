use Rattle.zio_course.proofs.ParentLemmas.{batch_parented, ran_parented}
use Rattle.zio_course.proofs.laws.parents_wait_for_children.Goals as goal

pub returns : goal.returns
returns c = record { batch = batch_parented; round = ran_parented }
