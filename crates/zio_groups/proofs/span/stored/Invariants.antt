use Rattle.std.proofs.Common.{◌≡◌, map, take}
use Rattle.zio_groups.specs.Spans.{stored_answered}
use Rattle.zio_groups.proofs.span.stored.Given as goal

abbrev pub invariant-loop-member : goal.invariant-loop-member
invariant-loop-member l = l.answers ≡ map stored_answered (take l.member-index l.members)
