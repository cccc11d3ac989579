use Rattle.zio_script.proofs.OpenBatchLemmas.{parent_of}
use Rattle.zio_script.proofs.open_batch.OpenBatch.stand.Goals as goal

pub returns-in-Ok : goal.returns-in-Ok
returns-in-Ok c = λ apart batch is.
    parent_of batch c.args.self.now c.args.under c.in-Some.number c.in-Ok.at c.position.result c.in-Some.is c.in-Ok.is (c.position.ensures apart batch is)
