use Rattle.std.proofs.Common.{None, ap, arith}
use Rattle.zio_audit.proofs.MarkLemmas.{mark_put, mark_past}
use Rattle.zio_audit.proofs.marks.marks_of.Goals.{then-at-len, else-at-len}
use Rattle.zio_audit.proofs.marks.marks_of.Goals as goal

pub loop-completion-preserved : goal.loop-completion-preserved
loop-completion-preserved c = elim c.if-at-len.branch [
  | then-at-len w ↦
      mark_put c.args.due.now c.loop-completion.marks.items c.if-at-len.marks.items c.args.len c.loop-completion.completion-index (record { request = 0; round = 0; error = None })
      (omega arith) w.if-at-len.true c.loop-completion.invariant (ap (λ v. v.items) w.marks-is)
  | else-at-len w ↦
      mark_past c.args.due.now c.loop-completion.marks.items c.if-at-len.marks.items c.args.len c.loop-completion.completion-index (record { request = 0; round = 0; error = None })
      (omega arith) w.if-at-len.false c.loop-completion.invariant (ap (λ v. v.items) w.marks-is)
]
