use Rattle.std.proofs.Common.{◌∙◌, [], ap, arith, false, refl, subst, sym, inl, inr}
use Rattle.zio_masks.specs.declared.stage.Stage.{Stage}
use Rattle.zio_nodes.specs.Bounds.{part_stages, pass_left, write_left}
use Rattle.zio_nodes.specs.PartAts.{PartStands}
use Rattle.zio_nodes.specs.Told.{is_told}
use Rattle.zio_nodes.proofs.PartBounds.{same_share}
use Rattle.zio_nodes.proofs.PartLemmas.{part_goes}
use Rattle.zio_nodes.proofs.StageLemmas.{write_assessed}
use Rattle.zio_masks.specs.declared.stage.Stage.TheVariants.{VdevIoAssess}
use Rattle.zio_nodes.proofs.StageLeads.{next_of}
use Rattle.zio_masks.specs.declared.pipeline.TheConstants.{WRITE}
use Rattle.zio_masks.specs.Stages.{has}
use Rattle.zio_nodes.proofs.StageAllows.{goes_again}
use Rattle.zio_nodes.specs.declared.node.Node.TheVariants.{Part}
use Rattle.zio_nodes.proofs.part_at.PartAt.vdev_io_assess.Goals as goal

pub vdev_io_assess-goes_again-requires-clause-due : goal.vdev_io_assess-goes_again-requires-clause-due
vdev_io_assess-goes_again-requires-clause-due c =
    let at = c.args.self.now in
    (subst (λ (s : Stage). PartStands c.args.tops.now s at.is_due at.node.work) c.requires.stage c.requires.over.stands).2

pub returns-then-goes_again-clause-moves : goal.returns-then-goes_again-clause-moves
returns-then-goes_again-clause-moves c = λ t st now.
    part_goes t st c.args.self.now _ [] (c.vdev_io_assess-goes_again.ensures.does t st now.tops_are now.is) (sym (ap is_told c.requires.stage))

pub returns-clause-moves : goal.returns-clause-moves
returns-clause-moves c = λ t st now.
    part_goes t st c.args.self.now _ [] (c.vdev_io_assess-goes_again.ensures.does t st now.tops_are now.is)
    (ap is_told (write_assessed c.next-self.result c.next-self.ensures) ∙ sym (ap is_told c.requires.stage))

pub returns-then-goes_again-clause-over : goal.returns-then-goes_again-clause-over
returns-then-goes_again-clause-over c =
    let at = c.args.self.now in
    let h = c.requires.over in
    let e = c.vdev_io_assess-goes_again.ensures in
    let stands = subst (λ (s : Stage). PartStands c.args.tops.now s at.is_due at.node.work) c.requires.stage h.stands in
    record { tops_are = h.tops_are; units = h.units; over = e.over; stands = (refl, e.far.ready stands.0) }

pub returns-clause-over : goal.returns-clause-over
returns-clause-over c =
    let at = c.args.self.now in
    let h = c.requires.over in
    let e = c.vdev_io_assess-goes_again.ensures in
    let new = c.vdev_io_assess-goes_again.new.self in
    let stands = subst (λ (s : Stage). PartStands c.args.tops.now s at.is_due at.node.work) c.requires.stage h.stands in
    record {
      tops_are = h.tops_are;
      units = h.units;
      over = e.over;
      stands = subst (λ (s : Stage). PartStands c.args.tops.now s false new.work) (sym (write_assessed c.next-self.result c.next-self.ensures))
          (e.none c.if-goes_again.false, e.far.issued stands.1);
    }

pub returns-then-goes_again-clause-left : goal.returns-then-goes_again-clause-left
returns-then-goes_again-clause-left c =
    let at = c.args.self.now in
    let e = c.vdev_io_assess-goes_again.ensures in
    let new = c.vdev_io_assess-goes_again.new.self in
    let share = same_share at.node.work.own.part new.work.own.part e.far.many e.far.path in
    let again = e.again c.if-goes_again.true in
    let was = ap (λ (s : Stage). write_left s at.node.work.io) c.requires.stage in
    omega (arith, share, e.count c.if-goes_again.true, was, ap pass_left again.0, ap pass_left again.1, ap part_stages c.requires.stage)

pub returns-clause-left : goal.returns-clause-left
returns-clause-left c =
    let at = c.args.self.now in
    let e = c.vdev_io_assess-goes_again.ensures in
    let new = c.vdev_io_assess-goes_again.new.self in
    let on = write_assessed c.next-self.result c.next-self.ensures in
    let share = same_share at.node.work.own.part new.work.own.part e.far.many e.far.path in
    let now = ap (λ (s : Stage). write_left s new.work.io) on in
    omega (arith, share, now, ap part_stages on, ap part_stages c.requires.stage)

pub returns-then-goes_again-clause-stages : goal.returns-then-goes_again-clause-stages
returns-then-goes_again-clause-stages c =
    let again = c.vdev_io_assess-goes_again.ensures.again c.if-goes_again.true in
    inr (inl (goes_again (Part c.args.self.now) _ c.requires.stage again.0 again.1, refl))

pub returns-clause-stages : goal.returns-clause-stages
returns-clause-stages c =
    inl (next_of WRITE (has WRITE) c.args.self.now.stage VdevIoAssess c.next-self.result c.requires.stage (λ s lt. refl) c.next-self.ensures)
