use Rattle.std.proofs.Common.{subst, sym}
use Rattle.zio_stages.specs.ReadCounts.{HasWalkBegun}
use Rattle.zio_stages.specs.RequestReads.{IsReadWith}
use Rattle.zio_stages.proofs.ReadCountLemmas.{begun_by}
use Rattle.zio_stages.proofs.request_node.RequestNode.is_walk_due_read.Goals as goal

pub returns-in_default-next-clause-none : goal.returns-in_default-next-clause-none
returns-in_default-next-clause-none c = λ no gang reads.
    subst (IsReadWith HasWalkBegun) (sym c.in-Read.is) (begun_by c.in-Read.own.tree.read c.next.result c.next.ensures.shows c.in_default-next.not-Walk)
