use Rattle.std.proofs.Common.{◌≡◌, ◌∙◌, Option, Some, ap, refl, subst, sym}
use Rattle.std.specs.Prelude.{IfSome}
use Rattle.zio_frames.specs.Frames.{Child}
use Rattle.zio_stages.specs.NodeIos.{IsWriteDue}
use Rattle.zio_stages.specs.declared.write_io.WriteIo.{WriteIo}
use Rattle.zio_stages.proofs.NodeIoLemmas.{same_child}
use Rattle.zio_stages.proofs.OutMoves.{write_idle}
use Rattle.zio_stages.proofs.PartIos.{awaited_some, hears_at, io_over, over_goes}
use Rattle.zio_stages.proofs.PartMoves.{write_at}
use Rattle.zio_stages.proofs.part_work.PartWork.arrive_leaf.Goals as goal

pub unreachable-requires : goal.unreachable-requires
unreachable-requires c =
    let w = c.args.self.now in
    awaited_some c.requires.over.0 w.own.part w.io c.args.family.now c.args.child c.requires.over.1.io c.requires.awaited (λ x e. c.in_default.not-Some x (c.take.ensures.value ∙ e))

pub hear_write-requires-clause-sits : goal.hear_write-requires-clause-sits
hear_write-requires-clause-sits c =
    let w = c.args.self.now in
    let e : w.io ≡ Some c.in-Some.io = sym c.take.ensures.value ∙ c.in-Some.is in
    (io_over c.requires.over.0 w.own.part w.io c.in-Some.io c.args.family.now e c.requires.over.1.io).2

pub returns-clause-heard : goal.returns-clause-heard
returns-clause-heard c = λ t f o st d a error there h.
    let w = c.args.self.now in
    let k = c.requires.awaited in
    let e : w.io ≡ Some c.in-Some.io = sym c.take.ensures.value ∙ c.in-Some.is in
    let same : k.child ≡ d = same_child c.args.family.now st.children c.args.child k.child d h.children k.is there in
    hears_at t w _ c.args.family.now c.hear_write.new.family f o st c.in-Some.io c.hear_write.new.io c.args.child k.number d _ e h refl refl refl
    (sym (ap (λ (x : Child). x.seat) same) ∙ k.seat)
    (c.hear_write.ensures.heard t w.bytes st d a error there (write_at t w c.args.family.now f o st c.in-Some.io e h))

pub returns-clause-over : goal.returns-clause-over
returns-clause-over c = λ tops h.
    let w = c.args.self.now in
    let e : w.io ≡ Some c.in-Some.io = sym c.take.ensures.value ∙ c.in-Some.is in
    let i = io_over tops w.own.part w.io c.in-Some.io c.args.family.now e h.io in
    over_goes tops w _ c.args.family.now c.hear_write.new.family c.in-Some.io c.hear_write.new.io e h refl refl refl (c.hear_write.ensures.over tops i.1) c.hear_write.ensures.sits

pub returns-clause-out : goal.returns-clause-out
returns-clause-out c = λ tops due.
    let w = c.args.self.now in
    let e : w.io ≡ Some c.in-Some.io = sym c.take.ensures.value ∙ c.in-Some.is in
    let k = c.requires.awaited in
    let sits = (io_over c.requires.over.0 w.own.part w.io c.in-Some.io c.args.family.now e c.requires.over.1.io).2 in
    write_idle tops c.in-Some.io (subst (λ (io : Option WriteIo). IfSome io (IsWriteDue tops)) e due) k.number
    (sits.outs c.args.child k.number k.child k.is k.goes k.seat)
