use Rattle.std.proofs.lemmas.List.{get_or_read}
use Rattle.std.proofs.lemmas.Result.{on_ok_weaker}
use Rattle.zio_groups.specs.LeafQueues.{waiting_with}
use Rattle.zio_turns.specs.AtLeaves.{keyed, no_waits, put_as}
use Rattle.zio_turns.proofs.LeafCalls.{cut_as, order_after, put_now, unqueued_at}
use Rattle.zio_turns.proofs.leaf_queues.Queues.put.Goals as goal

pub put-requires-clause-apart : goal.put-requires-clause-apart
put-requires-clause-apart c =
    let leaves = c.args.self.now.leaves.items in
    unqueued_at leaves c.args.leaf c.args.key c.index_mut.result.now
    (get_or_read leaves c.args.leaf c.index_mut.result.now c.requires.there c.index_mut.ensures.value no_waits) c.requires.apart

pub returns-clause-ok : goal.returns-clause-ok
returns-clause-ok c =
    let leaves = c.args.self.now.leaves.items in
    on_ok_weaker c.put.result
    (put_now leaves c.args.leaf c.index_mut.result.now c.put.new.self
    (waiting_with (keyed c.args.key c.args.op) c.front.result) (put_as c.args.key c.args.op c.args.bytes) c.requires.there
    (get_or_read leaves c.args.leaf c.index_mut.result.now c.requires.there c.index_mut.ensures.value no_waits)
    (cut_as c.args.key c.args.op c.front.result c.args.bytes c.front.ensures)) c.put.ensures.ok

pub returns-clause-order : goal.returns-clause-order
returns-clause-order c = λ order.
    let leaves = c.args.self.now.leaves.items in
    order_after c.put.result leaves c.args.leaf c.index_mut.result.now c.put.new.self
    (waiting_with (keyed c.args.key c.args.op) c.front.result) (put_as c.args.key c.args.op c.args.bytes) c.requires.there
    (get_or_read leaves c.args.leaf c.index_mut.result.now c.requires.there c.index_mut.ensures.value no_waits)
    (cut_as c.args.key c.args.op c.front.result c.args.bytes c.front.ensures) c.requires.apart c.put.ensures.ok c.put.ensures.err order
