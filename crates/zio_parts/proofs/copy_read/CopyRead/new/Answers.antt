use Rattle.std.proofs.Common.{◌<◌, ◌∙◌, ap, length}
use Rattle.zio_mirror.specs.Plans.{children, place_of}
use Rattle.zio_parts.specs.CopyReads.{left_of_read, order_at}
use Rattle.zio_parts.proofs.FieldLemmas.{fresh_is}
use Rattle.zio_parts.proofs.ReadLemmas.{fresh_left}
use Rattle.zio_parts.proofs.copy_read.CopyRead.new.Goals as goal

pub returns-clause-left : goal.returns-clause-left
returns-clause-left c = λ s good e.
    let a = c.args in
    let some : 0 < length c.as_slice.result.now = rw c.as_slice.ensures c.requires.some in
    let first = c.plan_at-leaves.ensures.order some ∙ ap (λ ps. order_at a.tops.now (place_of ps 0)) c.as_slice.ensures in
    let copies = c.for_copies-copies.ensures.order ∙ ap children c.len.ensures in
    ap (left_of_read s good)
    (fresh_is a.tops.now a.places a.len a.repair c.for_copies-copies.result c.plan_at-leaves.result copies c.for_copies-copies.ensures.answers first c.plan_at-leaves.ensures.answers)
    ∙ fresh_left s a.tops.now good a.places a.len a.repair e
