use Rattle.std.proofs.Common.{◌≡◌, Some, refl, sym, ◌∙◌}
use Rattle.std.proofs.lemmas.Result.{IfOk-weaker, on_err_weaker}
use Rattle.zio_stages.specs.declared.own_read.BodyIo.{BodyIo}
use Rattle.zio_stages.specs.declared.own_read.OwnRead.{OwnRead}
use Rattle.zio_stages.proofs.OwnReadLemmas.{body_over, over_goes, read_at, same_read, starts_body}
use Rattle.zio_stages.proofs.own_read.OwnRead.vdev_io_start.Goals as goal

pub start_read-started-requires-clause-over : goal.start_read-started-requires-clause-over
start_read-started-requires-clause-over c = (body_over c.args.tops.now c.args.self.now c.in-Some.body c.args.family.now (sym c.take.ensures.value ∙ c.in-Some.is) c.requires.over).over

pub start_read-started-requires-clause-sits : goal.start_read-started-requires-clause-sits
start_read-started-requires-clause-sits c = (body_over c.args.tops.now c.args.self.now c.in-Some.body c.args.family.now (sym c.take.ensures.value ∙ c.in-Some.is) c.requires.over).sits

pub returns-clause-starts : goal.returns-clause-starts
returns-clause-starts c =
    let old = c.args.self.now in
    let b = c.in-Some.body in
    let is : old.body ≡ Some b = sym c.take.ensures.value ∙ c.in-Some.is in
    let next : BodyIo = record { number = b.number; io = c.start_read-started.new.io } in
    let new : OwnRead = record { tree = old.tree; body = Some next } in
    IfOk-weaker c.start_read-started.result _ _ (λ leaf f t tree front_asked front st goes h.
    starts_body t old new b next c.args.family.now c.start_read-started.new.family tree front_asked front st leaf is refl refl refl
    (f t st goes.tops_are (read_at t old b c.args.family.now tree front_asked front st is h)) h) c.start_read-started.ensures.starts

pub returns-clause-over : goal.returns-clause-over
returns-clause-over c =
    let old = c.args.self.now in
    let b = c.in-Some.body in
    let next : BodyIo = record { number = b.number; io = c.start_read-started.new.io } in
    over_goes c.args.tops.now old.tree b next c.args.family.now c.start_read-started.new.family refl c.start_read-started.ensures.over c.start_read-started.ensures.sits
    (body_over c.args.tops.now old b c.args.family.now (sym c.take.ensures.value ∙ c.in-Some.is) c.requires.over)

pub returns-clause-err : goal.returns-clause-err
returns-clause-err c = on_err_weaker c.start_read-started.result (λ e. same_read c.args.self.now c.in-Some.body c.start_read-started.new.io (sym c.take.ensures.value ∙ c.in-Some.is) e) c.start_read-started.ensures.io_err
