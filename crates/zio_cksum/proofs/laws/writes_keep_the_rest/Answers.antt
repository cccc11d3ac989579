use Rattle.zio_cksum.proofs.WriteLemmas.{writes_law}
use Rattle.zio_cksum.proofs.laws.writes_keep_the_rest.Goals as goal

pub returns : goal.returns
returns c = writes_law
