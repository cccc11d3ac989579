use Rattle.std.proofs.Common.{is_some, nat_eq, ap, sym, ◌∙◌}
use Rattle.std.specs.HashMap.{get}
use Rattle.zio_vqueue.specs.Queues.{Queue, eligible}
use Rattle.zio_groups.specs.LeafQueues.{Waits, queue_of}
use Rattle.zio_groups.proofs.QueueLemmas.{queue_kept}
use Rattle.zio_groups.proofs.leaf_queue.LeafQueue.is_eligible.Goals as goal

pub returns : goal.returns
returns c =
    c.is_some.ensures
    ∙ ap is_some c.eligible.ensures
    ∙ ap (λ (q : Queue). is_some (eligible q)) (sym (queue_kept (get nat_eq c.self.inside.kept) c.self.inside.queue))
    ∙ ap (λ (w : Waits). is_some (eligible (queue_of w))) c.self.view_is
