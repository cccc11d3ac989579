use Rattle.zio_stages.specs.ReadIos.{IsReadOutIn}
use Rattle.zio_stages.proofs.NodeIoLemmas.{sits_still}
use Rattle.zio_stages.proofs.OutMoves.{read_goes_on, read_idle}
use Rattle.zio_stages.proofs.node_io.assess_read.Goals as goal

pub unreachable-requires : goal.unreachable-requires
unreachable-requires c = read_goes_on c.args.tops.now c.args.io.now c.next.result c.requires.due c.next.ensures.step c.in-Child.is

pub returns-in-Retry-clause-same : goal.returns-in-Retry-clause-same
returns-in-Retry-clause-same c = λ t st e h. record { children = h.children; asks = h.asks; part = c.begin_retry.ensures.again t _ e h.part }

pub returns-in-Retry-clause-sits : goal.returns-in-Retry-clause-sits
returns-in-Retry-clause-sits c =
    sits_still c.args.layer (IsReadOutIn c.args.io.now) (IsReadOutIn c.begin_retry.new.self) c.args.family.now
    (λ n h. absurd (read_idle c.args.tops.now c.args.io.now c.requires.due n h)) c.requires.sits
