use Rattle.zio_nodes.proofs.GivenBack.{gives_own}
use Rattle.zio_nodes.proofs.laws.nodes_give_their_own.Goals as goal

pub returns : goal.returns
returns c = λ t node st is. gives_own t node st is
