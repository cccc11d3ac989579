use Rattle.std.proofs.Common.{◌≡◌, drop}
use Rattle.zio_mirror.specs.Plans.{failed_children, is_among}
use Rattle.zio_mirror.proofs.plan.has_failed.Given as goal

-- the wanted child isn't among those so far, which all failed
abbrev pub invariant-loop-i : goal.invariant-loop-i
invariant-loop-i l = is_among l.wanted (failed_children (drop l.i l.order) (drop l.i l.answers)) ≡ is_among l.wanted (failed_children l.order l.answers)
