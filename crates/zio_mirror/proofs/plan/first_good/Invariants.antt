use Rattle.std.proofs.Common.{◌≡◌, drop}
use Rattle.zio_mirror.specs.Plans.{good_child}
use Rattle.zio_mirror.proofs.plan.first_good.Given as goal

-- no answer so far is good
abbrev pub invariant-loop-i : goal.invariant-loop-i
invariant-loop-i l = good_child (drop l.i l.order) (drop l.i l.answers) ≡ good_child l.order l.answers
