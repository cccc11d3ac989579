use Rattle.std.proofs.Common.{subst, sym}
use Rattle.zio_stages.specs.RequestWrites.{HasAsked, IsBegunWrite, IsMemberDue, IsPlacedWrite}
use Rattle.zio_stages.proofs.RequestWriteLemmas.{writes_only}
use Rattle.zio_stages.proofs.request_node.RequestNode.is_member_due.Goals as goal

pub unreachable-requires : goal.unreachable-requires
unreachable-requires c = writes_only _ c.args.self.now.own c.requires.begun c.in_default.not-Write

pub returns-clause-due : goal.returns-clause-due
returns-clause-due c = λ yes. subst IsMemberDue (sym c.in-Write.is) (c.is_member_due.ensures.due yes)

pub returns-clause-none : goal.returns-clause-none
returns-clause-none c = λ no asked.
    subst IsPlacedWrite (sym c.in-Write.is) (c.is_member_due.ensures.none no (subst HasAsked c.in-Write.is asked), subst IsBegunWrite c.in-Write.is c.requires.begun)
