use Rattle.zio_audit.specs.Keeping.{Keeps}
use Rattle.zio_audit.proofs.JudgeLemmas.{AreClaimed}
use Rattle.zio_audit.proofs.judge.claim_copies.Given as goal

abbrev pub invariant-loop-i : goal.invariant-loop-i
invariant-loop-i l = record { claimed : AreClaimed l.tops l.size l.places l.i l.initial.space l.space; kept : Keeps l.initial.space l.space }
