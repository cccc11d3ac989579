use Rattle.std.proofs.Common.{◌∙◌, ap}
use Rattle.zio_vqueue.specs.Queues.{eligible}
use Rattle.zio_vqueue.specs.Spots.{ops_at}
use Rattle.zio_vqueue.proofs.ServeLemmas.{eligible_alike}
use Rattle.zio_vqueue.proofs.queue.VQueue.eligible.Goals as goal

pub returns : goal.returns
returns c =
    c.eligible.ensures ∙ eligible_alike (record { queued = ops_at c.self.inside.spots.entries; active = c.self.inside.active; last = c.self.inside.last }) c.self.inside.waiting c.self.invariant.counted ∙ ap eligible c.self.view_is
