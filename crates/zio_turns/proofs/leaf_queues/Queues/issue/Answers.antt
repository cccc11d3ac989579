use Rattle.std.proofs.lemmas.List.{get_or_read}
use Rattle.std.proofs.lemmas.Result.{IfOk-weaker}
use Rattle.zio_turns.specs.AtLeaves.{no_waits}
use Rattle.zio_turns.proofs.LeafCalls.{issued_now, order_issued_if}
use Rattle.zio_turns.proofs.leaf_queues.Queues.issue.Goals as goal

pub returns-clause-issued : goal.returns-clause-issued
returns-clause-issued g c =
    let leaves = c.args.self.now.leaves.items in
    let leaf = c.eligible_at-leaf.result in
    let there = c.eligible_at-leaf.ensures.there in
    let was = c.index_mut.result.now in
    IfOk-weaker c.issue.result _ _
    (λ answers h. issued_now g.D.Disk.image c.args.setting.now leaves leaf _ was c.issue.new.self c.args.disks.now c.issue.new.disks
    answers there (get_or_read leaves leaf was there c.index_mut.ensures.value no_waits) c.eligible_at-leaf.ensures.number
    c.requires.order h) c.issue.ensures.issued

pub returns-clause-order_still : goal.returns-clause-order_still
returns-clause-order_still g c =
    let leaves = c.args.self.now.leaves.items in
    let leaf = c.eligible_at-leaf.result in
    let there = c.eligible_at-leaf.ensures.there in
    let was = c.index_mut.result.now in
    order_issued_if g.D.Disk.image c.args.setting.now leaves leaf was c.issue.new.self c.args.disks.now c.issue.new.disks
    c.issue.result there (get_or_read leaves leaf was there c.index_mut.ensures.value no_waits) c.requires.order
    c.issue.ensures.issued
