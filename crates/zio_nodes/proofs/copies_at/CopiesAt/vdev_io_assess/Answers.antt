use Rattle.std.proofs.Common.{false, refl, sym, ap, subst, ◌∙◌, arith, inl, inr}
use Rattle.zio_masks.specs.declared.stage.Stage.{Stage}
use Rattle.zio_masks.specs.declared.stage.Stage.TheVariants.{ChecksumVerify, VdevIoAssess}
use Rattle.zio_nodes.specs.Bounds.{copies_stages}
use Rattle.zio_nodes.specs.CopiesAts.{ReadStands}
use Rattle.zio_nodes.specs.StageMoves.{IsNextOf, takes_stage}
use Rattle.zio_nodes.specs.Told.{is_told}
use Rattle.zio_nodes.specs.declared.node.Node.TheVariants.{Copies}
use Rattle.zio_nodes.proofs.CopiesLemmas.{copies_go, copies_lead}
use Rattle.zio_nodes.proofs.StageAllows.{goes_again}
use Rattle.zio_nodes.proofs.StageCuts.{assessed_is, assessed_to, assessed_told, copies_after, copies_assessed, cut_by, io_left, verify_next}
use Rattle.zio_nodes.proofs.copies_at.CopiesAt.vdev_io_assess.Goals as goal

pub returns-then-goes_again-clause-stages : goal.returns-then-goes_again-clause-stages
returns-then-goes_again-clause-stages c =
    let again = c.vdev_io_assess-goes_again.ensures.again c.if-goes_again.true in
    inr (inl (goes_again (Copies c.args.self.now) _ c.requires.stage again.0 again.1, refl))

pub returns-clause-moves : goal.returns-clause-moves
returns-clause-moves c = λ t st now.
    let failed = c.has_failed-has_failed.result in
    let is = assessed_is failed c.behind_assess-self.result c.behind_assess-self.ensures.cut c.behind_assess-self.ensures.on in
    copies_go t st c.args.self.now _ (c.vdev_io_assess-goes_again.ensures.same t st now.tops_are now.is.read) now.is.answers
    (ap is_told is ∙ assessed_told failed ∙ sym (ap is_told c.requires.stage))

pub returns-clause-over : goal.returns-clause-over
returns-clause-over c =
    let failed = c.has_failed-has_failed.result in
    let is = assessed_is failed c.behind_assess-self.result c.behind_assess-self.ensures.cut c.behind_assess-self.ensures.on in
    let new = c.vdev_io_assess-goes_again.new.self in
    record {
      over = c.vdev_io_assess-goes_again.ensures.over;
      stands = subst (λ (s : Stage). ReadStands c.args.tops.now s false new.io) (sym is)
          (copies_after c.args.tops.now failed new.io (c.vdev_io_assess-goes_again.ensures.ended c.if-goes_again.false));
    }

pub returns-clause-left : goal.returns-clause-left
returns-clause-left c =
    let failed = c.has_failed-has_failed.result in
    let is = assessed_is failed c.behind_assess-self.result c.behind_assess-self.ensures.cut c.behind_assess-self.ensures.on in
    let e = c.vdev_io_assess-goes_again.ensures in
    omega (arith, ap io_left (e.over_now c.if-goes_again.false), ap copies_stages is, copies_assessed failed, ap copies_stages c.requires.stage)

pub returns-clause-stages : goal.returns-clause-stages
returns-clause-stages c =
    let at = c.args.self.now in
    let failed = c.has_failed-has_failed.result in
    let is = assessed_is failed c.behind_assess-self.result c.behind_assess-self.ensures.cut c.behind_assess-self.ensures.on in
    cut_by (Copies at) _ failed c.requires.stage (sym c.has_failed-has_failed.ensures) is
    (λ on. subst (λ (s : Stage). IsNextOf (takes_stage (Copies at)) at.stage s) (sym (is ∙ ap assessed_to on))
    (copies_lead at VdevIoAssess ChecksumVerify c.requires.stage verify_next))
