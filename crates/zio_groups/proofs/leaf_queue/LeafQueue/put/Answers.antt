use Rattle.std.proofs.Common.{◌++◌, ◌∷◌, [], nat_eq, ap, ◌∙◌}
use Rattle.std.proofs.lemmas.Result.{on_err_weaker, on_ok_weaker}
use Rattle.std.specs.HashMap.{get}
use Rattle.zio_vqueue.specs.declared.op.Op.{Op}
use Rattle.zio_vqueue.specs.Queues.{Queue}
use Rattle.zio_groups.specs.LeafQueues.{Waits, waiting_with, waits_of}
use Rattle.zio_groups.proofs.QueueLemmas.{Kept, order_put, unqueued, unseen, waits_pushed, waits_same}
use Rattle.zio_groups.proofs.leaf_queue.LeafQueue.put.Goals as goal

pub put-requires-clause-apart : goal.put-requires-clause-apart
put-requires-clause-apart c = unseen (get nat_eq c.self.inside.kept) c.self.inside.queue c.args.self.now c.args.op.ticket c.self.view_is c.requires.apart

pub invariant_of-self-2 : goal.invariant_of-self-2
invariant_of-self-2 c =
    let f : Kept = get nat_eq c.self.inside.kept in
    let q : Queue = c.self.inside.queue in
    order_put f (get nat_eq c.keep.new.kept) q c.put.new.self c.args.op c.args.bytes c.put.result
    (unseen f q c.args.self.now c.args.op.ticket c.self.view_is c.requires.apart) c.in_ok-keep.ensures.others c.in_ok-keep.ensures.bytes c.requires.fits c.requires.room c.put.ensures.ok c.put.ensures.err c.self.invariant

pub returns-clause-ok : goal.returns-clause-ok
returns-clause-ok c =
    let f : Kept = get nat_eq c.self.inside.kept in
    let h : Kept = get nat_eq c.keep.new.kept in
    let q : Queue = c.self.inside.queue in
    let o : Op = c.args.op in
    on_ok_weaker c.put.result
    (λ e.
    ap (waits_of h) e
    ∙ waits_pushed f h q o c.args.bytes (unseen f q c.args.self.now o.ticket c.self.view_is c.requires.apart) c.in_ok-keep.ensures.others c.in_ok-keep.ensures.bytes
    ∙ ap (λ (w : Waits). record { waiting = w.waiting ++ waiting_with o c.args.bytes ∷ []; active = w.active; last = w.last }) c.self.view_is)
    c.put.ensures.ok

pub returns-clause-err : goal.returns-clause-err
returns-clause-err c =
    let f : Kept = get nat_eq c.self.inside.kept in
    let h : Kept = get nat_eq c.keep.new.kept in
    let q : Queue = c.self.inside.queue in
    let o : Op = c.args.op in
    on_err_weaker c.put.result
    (λ e.
    ap (waits_of h) e
    ∙ waits_same f h q (unqueued f h o.ticket q.queued (unseen f q c.args.self.now o.ticket c.self.view_is c.requires.apart) c.in_ok-keep.ensures.others)
    ∙ c.self.view_is)
    c.put.ensures.err
