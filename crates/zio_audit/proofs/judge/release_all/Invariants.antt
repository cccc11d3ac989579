use Rattle.std.proofs.Common.{◌≤◌, length}
use Rattle.zio_audit.specs.Keeping.{Keeps}
use Rattle.zio_audit.proofs.JudgeLemmas.{IsFreedTo}
use Rattle.zio_audit.proofs.judge.release_all.Given as goal

abbrev pub invariant-loop-left : goal.invariant-loop-left
invariant-loop-left l = record { few : l.left ≤ length l.places; freed : IsFreedTo l.places l.left l.initial.space l.space; kept : Keeps l.initial.space l.space }

abbrev pub decreases-loop-left : goal.decreases-loop-left
decreases-loop-left l = l.left
