use Rattle.std.proofs.Common.{◌+◌, ◌<◌, ◌∙◌, ap, sym, subst, length, take, true}
use Rattle.zio_parts.specs.Answered.{out_count}
use Rattle.zio_parts.specs.CopyReads.{IsReadyWith, Reading, left_of_read, outs_of}
use Rattle.zio_parts.specs.contracts.copy_read.CopyRead.{the_view}
use Rattle.zio_parts.proofs.FieldLemmas.{mends_more, mends_room, nothing, there}
use Rattle.zio_parts.proofs.ReadLemmas.{out_left}
use Rattle.zio_parts.proofs.RepairLemmas.{repair_handed, repair_handed_out}
use Rattle.zio_parts.proofs.copy_read.CopyRead.hand_out.Goals as goal

pub returns-then-is_some-clause-left : goal.returns-then-is_some-clause-left
returns-then-is_some-clause-left c = λ s good.
    let x = c.self.inside in
    let some = there x.good (sym c.is_some.ensures ∙ c.if-is_some.true) in
    let v : Reading = the_view x in
    let ready : IsReadyWith x.good v = rw (← c.self.view_is) at c.requires in
    let room : length (take x.handed x.mends) < 12 = subst (λ g. IsReadyWith g v) some.1 ready in
    ap (left_of_read s good) (mends_more v some.0 x.handed x.mends (mends_room x.handed x.mends c.self.invariant.mends c.self.invariant.handed room))
    ∙ repair_handed s good v some.0 some.1
    ∙ ap (left_of_read s good) c.self.view_is

pub returns-then-is_some-clause-out : goal.returns-then-is_some-clause-out
returns-then-is_some-clause-out c =
    let x = c.self.inside in
    let some = there x.good (sym c.is_some.ensures ∙ c.if-is_some.true) in
    let v : Reading = the_view x in
    let ready : IsReadyWith x.good v = rw (← c.self.view_is) at c.requires in
    let room : length (take x.handed x.mends) < 12 = subst (λ g. IsReadyWith g v) some.1 ready in
    ap (λ y. out_count (outs_of y)) (mends_more v some.0 x.handed x.mends (mends_room x.handed x.mends c.self.invariant.mends c.self.invariant.handed room))
    ∙ repair_handed_out v some.0 some.1
    ∙ ap (λ y. out_count (outs_of y) + 1) c.self.view_is

pub returns-clause-left : goal.returns-clause-left
returns-clause-left c = λ s good.
    let x = c.self.inside in
    let v : Reading = the_view x in
    out_left s good v true (nothing x.good (sym c.is_some.ensures ∙ c.if-is_some.false)) ∙ ap (left_of_read s good) c.self.view_is
