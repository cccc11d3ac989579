use Rattle.std.proofs.Common.{sym}
use Rattle.std.proofs.lemmas.Result.{IfOk-weaker}
use Rattle.zio_scrub.proofs.WaitLemmas.{issued_now, order_if}
use Rattle.zio_scrub.proofs.queues.Queues.issue.Goals as goal

pub returns-clause-issued : goal.returns-clause-issued
returns-clause-issued g c =
    IfOk-weaker c.issue.result _ _
    (λ answers h. issued_now g.D.Disk.image c.args.setting.now c.args.self.now.leaves.items c.args.leaf c.index_mut.result.now
    c.issue.new.self c.args.disks.now c.issue.new.disks answers c.requires.there (sym c.index_mut.ensures.value) c.requires.order h)
    c.issue.ensures.issued

pub returns-clause-order : goal.returns-clause-order
returns-clause-order g c =
    order_if g.D.Disk.image c.args.setting.now c.args.self.now.leaves.items c.args.leaf c.index_mut.result.now
    c.issue.new.self c.args.disks.now c.issue.new.disks c.issue.result c.requires.there (sym c.index_mut.ensures.value) c.requires.order
    c.issue.ensures.issued
