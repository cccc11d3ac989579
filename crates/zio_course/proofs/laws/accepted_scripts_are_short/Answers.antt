use Rattle.zio_course.proofs.ShortLemmas.{few_items}
use Rattle.zio_course.proofs.laws.accepted_scripts_are_short.Goals as goal

pub returns : goal.returns
returns c = few_items
