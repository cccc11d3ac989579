use Rattle.std.proofs.Common.{◌≡◌, Some, true, refl, subst}
use Rattle.zio_trace.specs.Tasks.{ReadCopies, Task}
use Rattle.zio_frames.specs.Frames.{fresh_frame}
use Rattle.zio_stages.specs.ReadIos.{IsReadIo}
use Rattle.zio_stages.specs.TreeWorks.{body_task}
use Rattle.zio_stages.specs.declared.own_read.BodyIo.{BodyIo}
use Rattle.zio_stages.specs.declared.own_read.OwnRead.{OwnRead}
use Rattle.zio_stages.proofs.OwnReadLemmas.{begins, fresh_over}
use Rattle.zio_stages.proofs.own_read.OwnRead.begin_body.Goals as goal

pub returns-clause-begins : goal.returns-clause-begins
returns-clause-begins c = λ t family tree front_asked front st goes h.
    let old = c.args.self.now in
    let body = c.args.body in
    let b : BodyIo = record { number = c.number_of-number.result; io = c.new-io.result } in
    let new : OwnRead = record { tree = c.hand_out_body.new.self; body = Some b } in
    let op : ReadCopies true c.body-check.result body.bp.size c.in_ok-places.places ≡ body_task body.bp =
    λ i. ReadCopies true (c.body-check.ensures i) body.bp.size (c.in_ok-places.ensures i) in
    let fresh : IsReadIo t b.io (fresh_frame (body_task body.bp)) =
    subst (λ (q : Task). IsReadIo t b.io (fresh_frame q)) op (c.new-io.ensures.fresh t goes.tops_are) in
    begins t c.args.tops.now old new b body family tree front_asked front st c.requires.alone refl c.number_of-number.ensures fresh c.requires.next
    (λ asked slots is. c.in_ok-hand_out_body.ensures.out tree asked slots is) goes h

pub returns-clause-over : goal.returns-clause-over
returns-clause-over c = λ family none.
    let b : BodyIo = record { number = c.number_of-number.result; io = c.new-io.result } in
    fresh_over c.args.tops.now c.hand_out_body.new.self b c.args.body.n family c.number_of-number.ensures c.new-io.ensures.over (λ left. c.in_ok-hand_out_body.ensures.there left) none
