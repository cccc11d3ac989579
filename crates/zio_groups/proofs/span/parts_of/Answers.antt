use Rattle.zio_cksum.proofs.AllLemmas.{all_unmap}
use Rattle.zio_vqueue.specs.Members.{LiesIn}
use Rattle.zio_groups.specs.declared.waiting.QueuedOp.{QueuedOp}
use Rattle.zio_groups.proofs.IssueLemmas.{all_at}
use Rattle.zio_groups.proofs.span.parts_of.Goals as goal

pub part_of-requires-clause-inside : goal.part_of-requires-clause-inside
part_of-requires-clause-inside c =
    all_at (λ (w : QueuedOp). LiesIn c.args.group.now w.op) c.args.members.now c.loop-member.member-index c.member-item.result c.loop-member-test.true c.member-item.is
    (all_unmap (LiesIn c.args.group.now) (λ (w : QueuedOp). w.op) c.args.members.now c.requires.inside)
