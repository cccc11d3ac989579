use Rattle.zio_nodes.proofs.PartHearing.{member_tells}
use Rattle.zio_nodes.proofs.laws.members_alone_tell_pointers.Goals as goal

pub returns : goal.returns
returns c = λ t at st n d h. member_tells t at st n d h
