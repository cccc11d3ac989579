use Rattle.std.proofs.Common.{◌≤◌, length}
use Rattle.zio_audit.specs.Keeping.{Keeps}
use Rattle.zio_audit.proofs.JudgeLemmas.{AreJudged, IsBackTo}
use Rattle.zio_audit.proofs.judge.are_lawful.Given as goal

abbrev pub invariant-loop-entry : goal.invariant-loop-entry
invariant-loop-entry l = record { judged : AreJudged l.tops l.entries l.entry-index l.initial.space l.space; kept : Keeps l.initial.space l.space }

abbrev pub invariant-loop-left : goal.invariant-loop-left
invariant-loop-left l = record { few : l.left ≤ length l.entries; back : IsBackTo l.entries l.left l.fn.space l.space; kept : Keeps l.fn.space l.space }

abbrev pub decreases-loop-left : goal.decreases-loop-left
decreases-loop-left l = l.left
