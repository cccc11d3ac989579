use Rattle.std.proofs.Common.{◌≡◌, take}
use Rattle.zio_groups.specs.Spans.{joined}
use Rattle.zio_groups.proofs.span.join_all.Given as goal

abbrev pub invariant-loop-member : goal.invariant-loop-member
invariant-loop-member l = l.whole.items ≡ joined (take l.member-index l.members)
