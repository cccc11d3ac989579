use Rattle.zio_stages.specs.WriteIos.{IsOutIn}
use Rattle.zio_stages.proofs.NodeIoLemmas.{sits_still}
use Rattle.zio_stages.proofs.OutMoves.{write_goes_on, write_idle}
use Rattle.zio_stages.proofs.node_io.assess_write.Goals as goal

pub unreachable-requires : goal.unreachable-requires
unreachable-requires c = write_goes_on c.args.tops.now c.args.io.now c.next.result c.requires.due c.next.ensures.step c.in-Child.is

pub returns-in-Retry-clause-same : goal.returns-in-Retry-clause-same
returns-in-Retry-clause-same c = λ t bytes st e h. record { children = h.children; asks = h.asks; part = c.begin_retry.ensures.again t bytes _ e h.part }

pub returns-in-Retry-clause-sits : goal.returns-in-Retry-clause-sits
returns-in-Retry-clause-sits c =
    sits_still c.args.layer (IsOutIn c.args.io.now) (IsOutIn c.begin_retry.new.self) c.args.family.now
    (λ n h. absurd (write_idle c.args.tops.now c.args.io.now c.requires.due n h)) c.requires.sits
