use Rattle.std.proofs.Common.{◌+◌, take}
use Rattle.zio_groups.proofs.IssueLemmas.{taken_more}
use Rattle.zio_groups.proofs.SpanLemmas.{joined_more}
use Rattle.zio_groups.proofs.span.join_all.Goals as goal

pub loop-member-preserved : goal.loop-member-preserved
loop-member-preserved c =
    joined_more (take c.loop-member.member-index c.args.members.now) (take (c.loop-member.member-index + 1) c.args.members.now) c.member-item.result c.loop-member.whole.items c.join.new.whole.items c.as_slice.result.now
    (taken_more c.args.members.now c.loop-member.member-index c.member-item.result c.loop-member-test.true c.member-item.is)
    c.in_ok-join.ensures.ok c.as_slice.ensures c.loop-member.invariant
