use Rattle.std.proofs.Common.{◌+◌, ◌∙◌, ap}
use Rattle.zio_trace.specs.Calls.{answered_at}
use Rattle.zio_parts.specs.Answered.{out_before, out_count}
use Rattle.zio_parts.specs.CopyReads.{Reading, left_of_read, outs_of}
use Rattle.zio_parts.specs.contracts.copy_read.CopyRead.{the_view}
use Rattle.zio_parts.proofs.FieldLemmas.{mends_of_good, mends_set}
use Rattle.zio_parts.proofs.RepairLemmas.{mended_left, mended_out}
use Rattle.zio_parts.proofs.copy_read.CopyRead.hear_repair.Goals as goal

pub returns-clause-mended : goal.returns-clause-mended
returns-clause-mended c =
    let x = c.self.inside in
    let v : Reading = the_view x in
    rw (← c.self.view_is) (mends_set v x.handed c.args.n x.mends)

pub returns-clause-left : goal.returns-clause-left
returns-clause-left c = λ s good answer.
    let x = c.self.inside in
    let v : Reading = the_view x in
    let is = rw (← c.self.view_is) at c.requires in
    let some = mends_of_good x.good x.handed c.args.n x.mends c.self.invariant.waits is in
    ap (left_of_read s good) (mends_set v x.handed c.args.n x.mends)
    ∙ mended_left s good v c.args.n answer some.0 some.1 is
    ∙ ap (λ y. answered_at (out_before c.args.n (outs_of y)) answer (left_of_read s good y)) c.self.view_is

pub returns-clause-out : goal.returns-clause-out
returns-clause-out c =
    let x = c.self.inside in
    let v : Reading = the_view x in
    let is = rw (← c.self.view_is) at c.requires in
    let some = mends_of_good x.good x.handed c.args.n x.mends c.self.invariant.waits is in
    ap (λ y. out_count (outs_of y) + 1) (mends_set v x.handed c.args.n x.mends)
    ∙ mended_out v c.args.n some.0 some.1 is
    ∙ ap (λ y. out_count (outs_of y)) c.self.view_is
