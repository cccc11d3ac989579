use Rattle.std.proofs.Common.{◌≡◌, drop}
use Rattle.zio_audit.proofs.journals.Journals.skip.Given as goal

abbrev pub invariant-loop-left : goal.invariant-loop-left
invariant-loop-left l = drop l.rounds l.initial.self ≡ drop l.left l.self

abbrev pub decreases-loop-left : goal.decreases-loop-left
decreases-loop-left l = l.left
