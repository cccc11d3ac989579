use Rattle.std.proofs.Common.{◌≡◌, Some, refl, sym, subst, ◌∙◌, Option}
use Rattle.zio_parts.specs.HeadWalks.{no_walk}
use Rattle.zio_stages.specs.OwnReads.{IsOwnOver}
use Rattle.zio_stages.specs.declared.own_read.BodyIo.{BodyIo}
use Rattle.zio_stages.specs.declared.own_read.OwnRead.{OwnRead}
use Rattle.zio_stages.proofs.NodeIoEnds.{read_leaves_none}
use Rattle.zio_stages.proofs.OwnReadLemmas.{body_over, closes_body, due_of, read_at, read_goes, still_itself}
use Rattle.zio_stages.proofs.own_read.OwnRead.vdev_io_assess.Goals as goal

pub assess_read-requires-clause-over : goal.assess_read-requires-clause-over
assess_read-requires-clause-over c = (body_over c.args.tops.now c.args.self.now c.in-Some.body c.args.family.now (sym c.take.ensures.value ∙ c.in-Some.is) c.requires.over).over

pub assess_read-requires-clause-sits : goal.assess_read-requires-clause-sits
assess_read-requires-clause-sits c = (body_over c.args.tops.now c.args.self.now c.in-Some.body c.args.family.now (sym c.take.ensures.value ∙ c.in-Some.is) c.requires.over).sits

pub assess_read-requires-clause-due : goal.assess_read-requires-clause-due
assess_read-requires-clause-due c = due_of c.args.tops.now c.args.self.now.body c.in-Some.body (sym c.take.ensures.value ∙ c.in-Some.is) c.requires.due

pub returns-then-assess_read-clause-again : goal.returns-then-assess_read-clause-again
returns-then-assess_read-clause-again c = λ _ t tree front_asked front st tops h.
    let old = c.args.self.now in
    let b = c.in-Some.body in
    let family = c.args.family.now in
    let is : old.body ≡ Some b = sym c.take.ensures.value ∙ c.in-Some.is in
    let next : BodyIo = record { number = b.number; io = c.assess_read.new.io } in
    let new : OwnRead = record { tree = old.tree; body = Some next } in
    read_goes t old new b next family family tree front_asked front st st is refl refl refl (still_itself st)
    (c.assess_read.ensures.same t st tops (read_at t old b family tree front_asked front st is h)) h

pub hear_body-requires-clause-out : goal.hear_body-requires-clause-out
hear_body-requires-clause-out c = (no_walk, (body_over c.args.tops.now c.args.self.now c.in-Some.body c.args.family.now (sym c.take.ensures.value ∙ c.in-Some.is) c.requires.over).out.out no_walk)

pub returns-clause-closes : goal.returns-clause-closes
returns-clause-closes c = λ _ t tree front_asked front st tops h.
    let old = c.args.self.now in
    let b = c.in-Some.body in
    let family = c.args.family.now in
    let is : old.body ≡ Some b = sym c.take.ensures.value ∙ c.in-Some.is in
    let new : OwnRead = record { tree = c.hear_body.new.self; body = c.take.new.self } in
    closes_body t c.args.tops.now old new b c.assess_read.new.io family tree front_asked front st c.into_found.result is c.take.ensures.after
    (c.assess_read.ensures.same t st tops (read_at t old b family tree front_asked front st is h)) (c.assess_read.ensures.ended c.if-assess_read.false)
    (λ x r. c.into_found.ensures t x tops r) (λ asked begun w. c.hear_body.ensures.heard tree asked begun w) h

pub returns-clause-over : goal.returns-clause-over
returns-clause-over c =
    subst (λ (o : Option BodyIo). IsOwnOver c.args.tops.now c.hear_body.new.self o c.args.family.now) (sym c.take.ensures.after)
    (read_leaves_none c.args.tops.now c.assess_read.new.io c.args.family.now (c.assess_read.ensures.ended c.if-assess_read.false) c.assess_read.ensures.sits)
