use Rattle.zio_graph.proofs.OverTops.{trees_over}
use Rattle.zio_graph.proofs.laws.runnable_trees_lie_on_the_tops.Goals as goal

pub returns : goal.returns
returns c = trees_over
