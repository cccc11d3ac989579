use Rattle.zio_graph.proofs.Completions.{completed_after_children}
use Rattle.zio_graph.proofs.laws.rounds_complete_children_first.Goals as goal

pub returns : goal.returns
returns c = completed_after_children
