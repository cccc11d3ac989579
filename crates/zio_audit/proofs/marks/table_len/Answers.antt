use Rattle.std.proofs.Common.{None, arith}
use Rattle.zio_audit.proofs.MarkLemmas.{below_more, below_all}
use Rattle.zio_audit.proofs.marks.table_len.Goals.{then-next-len, else-next-len}
use Rattle.zio_audit.proofs.marks.table_len.Goals as goal

pub loop-completion-preserved : goal.loop-completion-preserved
loop-completion-preserved c = elim c.if-next-len.branch [
  | then-next-len w ↦
      below_more c.args.due.now c.loop-completion.completion-index c.loop-completion.len c.if-next-len.len (record { request = 0; round = 0; error = None }) (omega arith) (omega arith) (omega arith) c.loop-completion.invariant
  | else-next-len w ↦
      below_more c.args.due.now c.loop-completion.completion-index c.loop-completion.len c.if-next-len.len (record { request = 0; round = 0; error = None }) (omega arith) (omega arith) (omega arith) c.loop-completion.invariant
]

pub returns : goal.returns
returns c = below_all c.args.due.now c.loop-completion.len c.loop-completion.completion-index (omega arith) c.loop-completion.invariant
