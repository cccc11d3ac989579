use Rattle.std.proofs.Common.{sym}
use Rattle.zio_groups.specs.LeafQueues.{waiting_with}
use Rattle.zio_scrub.proofs.WaitLemmas.{put_order}
use Rattle.zio_scrub.proofs.queues.Queues.put.Goals as goal

pub returns-in-Ok-clause-order : goal.returns-in-Ok-clause-order
returns-in-Ok-clause-order c =
    put_order c.args.self.now.leaves.items c.args.leaf c.index_mut.result.now c.put.new.self (waiting_with c.args.op c.args.bytes)
    c.requires.there (sym c.index_mut.ensures.value) c.in-Ok.ensures.ok c.requires.order c.requires.apart
