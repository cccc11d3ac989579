use Rattle.zio_stages.proofs.NoPointer.{has_none}
use Rattle.zio_stages.proofs.own_laws.what_is_no_write_has_no_pointer.Goals as goal

pub returns : goal.returns
returns c = λ t x attempt p forest is other. has_none t x attempt p forest is other
