use Rattle.zio_audit.proofs.NameLemmas.{IsIndexed}
use Rattle.zio_audit.proofs.index.index_of.Given as goal

abbrev pub invariant-loop-at : goal.invariant-loop-at
invariant-loop-at l = IsIndexed l.index.entries l.entries l.at
