use Rattle.zio_audit.proofs.MarkLemmas.{HaveParents}
use Rattle.zio_audit.proofs.marks.parents_of.Given as goal

abbrev pub invariant-loop-item : goal.invariant-loop-item
invariant-loop-item l = HaveParents l.items l.len l.item-index l.parents.items
