use Rattle.std.proofs.Common.{◌≡◌, ◌∙◌, Some, ap, refl, sym}
use Rattle.zio_parts.specs.Parts.{PartWriting}
use Rattle.zio_parts.specs.PartWrites.{is_due}
use Rattle.zio_stages.specs.PartWorks.{IsPartAt}
use Rattle.zio_stages.specs.declared.part_work.PartWork.{PartWork}
use Rattle.zio_stages.proofs.NodeIoEnds.{write_leaves_none}
use Rattle.zio_stages.proofs.PartIos.{io_over, over_ends, still_at}
use Rattle.zio_stages.proofs.PartMoves.{closes_at, does_nothing}
use Rattle.zio_stages.proofs.part_work.PartWork.vdev_io_assess.Goals as goal

pub assess_write-requires-clause-over : goal.assess_write-requires-clause-over
assess_write-requires-clause-over c =
    let w = c.args.self.now in
    let e : w.io ≡ Some c.in-Some.io = sym c.take.ensures.value ∙ c.in-Some.is in
    (io_over c.args.tops.now w.own.part w.io c.in-Some.io c.args.family.now e c.requires.over.io).1

pub assess_write-requires-clause-sits : goal.assess_write-requires-clause-sits
assess_write-requires-clause-sits c =
    let w = c.args.self.now in
    let e : w.io ≡ Some c.in-Some.io = sym c.take.ensures.value ∙ c.in-Some.is in
    (io_over c.args.tops.now w.own.part w.io c.in-Some.io c.args.family.now e c.requires.over.io).2

pub hear_written-requires : goal.hear_written-requires
hear_written-requires c =
    let w = c.args.self.now in
    let e : w.io ≡ Some c.in-Some.io = sym c.take.ensures.value ∙ c.in-Some.is in
    (io_over c.args.tops.now w.own.part w.io c.in-Some.io c.args.family.now e c.requires.over.io).0

pub returns-then-assess_write-clause-does : goal.returns-then-assess_write-clause-does
returns-then-assess_write-clause-does c = λ t f o st same h.
    let w = c.args.self.now in
    let e : w.io ≡ Some c.in-Some.io = sym c.take.ensures.value ∙ c.in-Some.is in
    does_nothing t st _ (still_at t w _ c.args.family.now f o st c.in-Some.io c.assess_write.new.io e h refl refl refl (c.assess_write.ensures.same t w.bytes st same))

pub returns-clause-does : goal.returns-clause-does
returns-clause-does c = λ t f o st same h.
    let w = c.args.self.now in
    let io = c.in-Some.io in
    let now = c.assess_write.new.io in
    let e : w.io ≡ Some io = sym c.take.ensures.value ∙ c.in-Some.is in
    let mid : PartWork = record { own = w.own; bytes = w.bytes; io = Some now; prio = w.prio; role = w.role } in
    let at : IsPartAt t mid c.args.family.now f o st = still_at t w mid c.args.family.now f o st io now e h refl refl refl (c.assess_write.ensures.same t w.bytes st same) in
    closes_at t c.args.tops.now mid _ c.args.family.now f o st now c.error-error.result refl at (c.assess_write.ensures.ended c.if-assess_write.false) (λ x is. c.error-error.ensures t w.bytes x same is)
    (λ n asks. c.hear_written.ensures.heard n asks t o at.asked at.slots at.work.own) c.take.ensures.after
    (ap (λ (x : PartWriting). x.own) c.hear_written.ensures.exact)

pub returns-clause-over : goal.returns-clause-over
returns-clause-over c =
    let w = c.args.self.now in
    over_ends c.args.tops.now w _ c.args.family.now c.requires.over (ap (λ (x : PartWriting). x.placing) c.hear_written.ensures.exact)
    (ap (λ (x : PartWriting). is_due x.own) c.hear_written.ensures.exact) c.take.ensures.after
    (write_leaves_none c.args.tops.now c.assess_write.new.io c.args.family.now (c.assess_write.ensures.ended c.if-assess_write.false) c.assess_write.ensures.sits)
