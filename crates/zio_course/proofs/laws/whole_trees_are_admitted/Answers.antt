use Rattle.zio_course.proofs.AdmittedLemmas.{trees_admitted}
use Rattle.zio_course.proofs.laws.whole_trees_are_admitted.Goals as goal

pub returns : goal.returns
returns c = trees_admitted
