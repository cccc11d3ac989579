use Rattle.zio_turns.proofs.SumLemmas.{whole_sum}
use Rattle.zio_turns.proofs.sums.whole.Goals as goal

pub returns-else-nodes-eq0 : goal.returns-else-nodes-eq0
returns-else-nodes-eq0 c = whole_sum c.args.nodes.now c.requires c.if-nodes-eq0.false
