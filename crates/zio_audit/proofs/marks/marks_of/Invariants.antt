use Rattle.zio_audit.proofs.MarkLemmas.{HaveMarks}
use Rattle.zio_audit.proofs.marks.marks_of.Given as goal

abbrev pub invariant-loop-completion : goal.invariant-loop-completion
invariant-loop-completion l = HaveMarks l.due l.len l.completion-index l.marks.items
