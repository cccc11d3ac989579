use Rattle.zio_course.proofs.LiveLemmas.{live_after, used_live}
use Rattle.zio_course.proofs.laws.bound_places_are_live.Goals as goal

pub returns : goal.returns
returns c = record { after = live_after; used = used_live }
