use Rattle.zio_stages.specs.HeadsNodes.{with_slots}
use Rattle.zio_stages.proofs.HeadsNodeLemmas.{gang_owed}
use Rattle.zio_stages.proofs.heads_node.HeadsNode.next.Goals as goal

pub returns-clause-waits : goal.returns-clause-waits
returns-clause-waits c = λ e t st seated h. gang_owed t c.args.self.now st h seated (c.next.ensures.waits e t (with_slots st.outer h.begun) h.part)
