use Rattle.std.proofs.Common.{ap}
use Rattle.zio_audit.proofs.MarkLemmas.{parent_put, parent_past, parent_other}
use Rattle.zio_audit.proofs.marks.parents_of.Goals.{in-Request+then-at-len, in-Request+else-at-len, in_default}
use Rattle.zio_audit.proofs.marks.parents_of.Goals as goal

pub loop-item-preserved : goal.loop-item-preserved
loop-item-preserved c = elim c.match-item.branch [
  | in-Request+then-at-len w ↦
      parent_put c.args.items.now c.loop-item.parents.items c.match-item.parents.items c.args.len c.loop-item.item-index c.item-item.result w.in-Request.request
      c.loop-item-test.true c.item-item.is w.in-Request.is w.if-at-len.true c.loop-item.invariant (ap (λ v. v.items) w.parents-is)
  | in-Request+else-at-len w ↦
      parent_past c.args.items.now c.loop-item.parents.items c.match-item.parents.items c.args.len c.loop-item.item-index c.item-item.result w.in-Request.request
      c.loop-item-test.true c.item-item.is w.in-Request.is w.if-at-len.false c.loop-item.invariant (ap (λ v. v.items) w.parents-is)
  | in_default w ↦
      parent_other c.args.items.now c.loop-item.parents.items c.match-item.parents.items c.args.len c.loop-item.item-index c.item-item.result
      c.loop-item-test.true c.item-item.is (λ r e. absurd (w.in_default.not-Request r e)) c.loop-item.invariant (ap (λ v. v.items) w.parents-is)
]
