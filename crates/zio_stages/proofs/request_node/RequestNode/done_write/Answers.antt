use Rattle.std.proofs.Common.{sym, subst, ◌∙◌}
use Rattle.zio_stages.specs.RequestWrites.{IsEndOf, IsWrittenWrite}
use Rattle.zio_stages.proofs.RequestWriteLemmas.{front_in, part_at, write_in, writes_only}
use Rattle.zio_stages.proofs.request_node.RequestNode.done_write.Goals as goal

pub unreachable-requires : goal.unreachable-requires
unreachable-requires c = writes_only _ c.args.self.now.own c.requires c.in_default.not-Write

pub done-requires : goal.done-requires
done-requires c = subst IsWrittenWrite c.in-Write.is c.requires

pub returns-in-Wait-clause-wait : goal.returns-in-Wait-clause-wait
returns-in-Wait-clause-wait c = λ kind e t st seated h all.
    let r = c.args.self.now in
    let w = c.in-Write.own in
    let own = write_in t r st w h c.in-Write.is in
    (c.done.ensures.wait kind (c.in-Wait.is ∙ e) t (front_in t r st h) own.part r.family st seated (part_at t r st w h own)).0

pub returns-in-Close-clause-close : goal.returns-in-Close-clause-close
returns-in-Close-clause-close c = λ e.
    let written = subst IsWrittenWrite c.in-Write.is c.requires in
    (subst IsEndOf (sym c.in-Write.is) (c.done.ensures.close c.in-Close.is, written.0), c.done_null.ensures.close e)
