use Rattle.zio_stages.proofs.OwnGangLemmas.{read_owed}
use Rattle.zio_stages.proofs.own_read.OwnRead.next.Goals as goal

pub returns-clause-waits : goal.returns-clause-waits
returns-clause-waits c = λ e alone t family tree front_asked front st seated h.
    read_owed t c.args.self.now family tree front_asked front st alone seated h (c.next.ensures.waits e tree h.asked h.begun h.work)
