use Rattle.zio_scrub.proofs.MendLemmas.{scrub_is}
use Rattle.zio_scrub.proofs.laws.a_scrub_makes_its_repairs.Goals as goal

pub returns : goal.returns
returns c = scrub_is
