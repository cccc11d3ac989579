use Rattle.std.proofs.Common.{◌≡◌, None, replicate}
use Rattle.zio_stages.proofs.attempted.nothing_left.Given as goal

abbrev pub invariant-loop-i : goal.invariant-loop-i
invariant-loop-i l = l.again.items ≡ replicate l._i None
