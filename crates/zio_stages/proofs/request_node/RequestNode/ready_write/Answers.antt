use Rattle.std.proofs.Common.{subst}
use Rattle.zio_stages.specs.RequestWrites.{IsPlacedWrite}
use Rattle.zio_stages.proofs.RequestWriteLemmas.{front_in, part_at, will_have, write_in, writes_only}
use Rattle.zio_stages.proofs.request_node.RequestNode.ready_write.Goals as goal

pub unreachable-requires : goal.unreachable-requires
unreachable-requires c = writes_only _ c.args.self.now.own c.requires c.in_default.not-Write

pub ready-requires : goal.ready-requires
ready-requires c =
    let h = subst IsPlacedWrite c.in-Write.is c.requires in
    record { placed = h.0; none = h.1 }

pub returns-clause-wait : goal.returns-clause-wait
returns-clause-wait c = λ kind e t st seated h.
    let r = c.args.self.now in
    let w = c.in-Write.own in
    let own = write_in t r st w h c.in-Write.is in
    (c.ready.ensures.wait kind e t (front_in t r st h) own.part r.family st seated (part_at t r st w h own)).0

pub returns-clause-tell : goal.returns-clause-tell
returns-clause-tell c = λ pointer e t st h.
    let r = c.args.self.now in
    let w = c.in-Write.own in
    let own = write_in t r st w h c.in-Write.is in
    will_have t r st w pointer h own (c.ready.ensures.tell pointer e t own.part h.own_asked h.own_slots own.is.own)
