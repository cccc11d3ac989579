use Rattle.zio_stages.proofs.PointersNone.{copies_have_none, heads_have_none}
use Rattle.zio_stages.proofs.pointer_laws.reads_tell_no_pointer.Goals as goal

pub returns-clause-copies : goal.returns-clause-copies
returns-clause-copies c = λ t node st h. copies_have_none t node st h

pub returns-clause-heads : goal.returns-clause-heads
returns-clause-heads c = λ t node st h. heads_have_none t node st h
