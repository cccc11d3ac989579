use Rattle.std.proofs.Common.{◌≡◌, map, take}
use Rattle.zio_groups.specs.Spans.{part_answered}
use Rattle.zio_groups.proofs.span.parts_of.Given as goal

abbrev pub invariant-loop-member : goal.invariant-loop-member
invariant-loop-member l = record {
  same : l.span ≡ l.fn.span;
  so_far : l.answers ≡ map (part_answered l.group.at l.fn.span) (take l.member-index l.members);
}
