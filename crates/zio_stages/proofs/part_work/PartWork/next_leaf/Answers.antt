use Rattle.std.proofs.Common.{◌≡◌, ◌∙◌, Some, refl, sym}
use Rattle.std.proofs.lemmas.Result.{IfOk-weaker}
use Rattle.zio_stages.proofs.PartIos.{io_over, over_goes, starts_with}
use Rattle.zio_stages.proofs.part_work.PartWork.next_leaf.Goals as goal

pub returns-clause-starts : goal.returns-clause-starts
returns-clause-starts c =
    let w = c.args.self.now in
    let e : w.io ≡ Some c.in-Some.io = sym c.take.ensures.value ∙ c.in-Some.is in
    IfOk-weaker c.start_write-leaf.result _ _
    (λ leaf call. λ t f o st same h. starts_with t w _ c.args.family.now c.start_write-leaf.new.family f o st c.in-Some.io c.start_write-leaf.new.io leaf w.bytes refl e h refl c.start_write-leaf.ensures.bytes refl (call t st same))
    c.start_write-leaf.ensures.starts

pub returns-clause-over : goal.returns-clause-over
returns-clause-over c =
    let w = c.args.self.now in
    let e : w.io ≡ Some c.in-Some.io = sym c.take.ensures.value ∙ c.in-Some.is in
    over_goes _ w _ c.args.family.now c.start_write-leaf.new.family c.in-Some.io c.start_write-leaf.new.io e c.requires.over refl c.start_write-leaf.ensures.bytes refl c.start_write-leaf.ensures.over c.start_write-leaf.ensures.sits

pub start_write-leaf-requires-clause-over : goal.start_write-leaf-requires-clause-over
start_write-leaf-requires-clause-over c =
    let w = c.args.self.now in
    let e : w.io ≡ Some c.in-Some.io = sym c.take.ensures.value ∙ c.in-Some.is in
    (io_over c.args.tops.now w.own.part w.io c.in-Some.io c.args.family.now e c.requires.over.io).1

pub start_write-leaf-requires-clause-sits : goal.start_write-leaf-requires-clause-sits
start_write-leaf-requires-clause-sits c =
    let w = c.args.self.now in
    let e : w.io ≡ Some c.in-Some.io = sym c.take.ensures.value ∙ c.in-Some.is in
    (io_over c.args.tops.now w.own.part w.io c.in-Some.io c.args.family.now e c.requires.over.io).2
