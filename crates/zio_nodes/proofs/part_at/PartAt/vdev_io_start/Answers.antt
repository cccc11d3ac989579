use Rattle.std.proofs.Common.{◌≡◌, ◌∙◌, ◌+◌, None, Ok, Option, Some, [], ap, arith, false, refl, subst, sym, inl}
use Rattle.zio_masks.specs.declared.stage.Stage.{Stage}
use Rattle.zio_stages.specs.NodeIos.{StartsBy, with_one}
use Rattle.zio_stages.specs.OwnParts.{DoesThen}
use Rattle.zio_stages.specs.PartNodes.{IsPartNode}
use Rattle.zio_stages.specs.PartWorks.{asked_by}
use Rattle.zio_stages.specs.declared.leaf.LeafWork.{LeafWork}
use Rattle.zio_nodes.specs.Bounds.{due_left, part_stages, pass_left, write_left}
use Rattle.zio_nodes.specs.PartAts.{PartStands}
use Rattle.zio_nodes.specs.Told.{is_told}
use Rattle.zio_nodes.proofs.PartBounds.{same_share, write_few}
use Rattle.zio_nodes.proofs.PartLemmas.{part_goes, part_starts}
use Rattle.zio_nodes.proofs.StageLemmas.{write_out}
use Rattle.zio_masks.specs.declared.stage.Stage.TheVariants.{VdevIoStart}
use Rattle.zio_nodes.proofs.StageLeads.{next_of}
use Rattle.zio_masks.specs.declared.pipeline.TheConstants.{WRITE}
use Rattle.zio_masks.specs.Stages.{has}
use Rattle.zio_stages.proofs.PartMoves.{does_nothing}
use Rattle.zio_nodes.proofs.Refused.{on_err}
use Rattle.zio_types.specs.declared.request.ChildKind.TheVariants.{Vdev}
use Rattle.zio_nodes.specs.declared.node.Node.TheVariants.{Part}
use Rattle.zio_nodes.proofs.StageAllows.{grows_so}
use Rattle.zio_nodes.proofs.PassLemmas.{any_stage}
use Rattle.zio_nodes.proofs.part_at.PartAt.vdev_io_start.Goals as goal

pub returns-in-Ok-Some-clause-moves : goal.returns-in-Ok-Some-clause-moves
returns-in-Ok-Some-clause-moves c = λ t st now.
    let new = c.vdev_io_start.new.self in
    let does : DoesThen t st [] (λ mid. StartsBy t mid (Some c.in-Ok-Some.work) (IsPartNode t new)) =
    subst (λ (o : Option LeafWork). DoesThen t st [] (λ mid. StartsBy t mid o (IsPartNode t new))) c.in-Ok-Some.field-0-is
    (c.in-Ok-Some.ensures.starts t st now.tops_are now.is) in
    part_starts t st c.args.self.now _ c.in-Ok-Some.work c.new-child.result does (λ act k. c.new-child.ensures.fresh t act k) refl

pub returns-in-Ok-None-clause-moves : goal.returns-in-Ok-None-clause-moves
returns-in-Ok-None-clause-moves c = λ t st now.
    let new = c.vdev_io_start.new.self in
    let does : DoesThen t st [] (λ mid. StartsBy t mid None (IsPartNode t new)) =
    subst (λ (o : Option LeafWork). DoesThen t st [] (λ mid. StartsBy t mid o (IsPartNode t new))) c.in-Ok-None.field-0-is
    (c.in-Ok-None.ensures.starts t st now.tops_are now.is) in
    part_goes t st c.args.self.now _ [] does (ap is_told (write_out c.next-self.result c.next-self.ensures) ∙ sym (ap is_told c.requires.stage))

pub returns-in-Err-clause-refused : goal.returns-in-Err-clause-refused
returns-in-Err-clause-refused c = λ t st now. part_goes t st c.args.self.now _ [] (c.in-Err.ensures.err t st now.is) refl

pub returns-in-Ok-Some-clause-over : goal.returns-in-Ok-Some-clause-over
returns-in-Ok-Some-clause-over c =
    let at = c.args.self.now in
    let h = c.requires.over in
    let stands = subst (λ (s : Stage). PartStands c.args.tops.now s at.is_due at.node.work) c.requires.stage h.stands in (
      record {
        tops_are = h.tops_are;
        units = h.units;
        over = c.vdev_io_start.ensures.over;
        stands = subst (λ (s : Stage). PartStands c.args.tops.now s at.is_due c.vdev_io_start.new.self.work) (sym c.requires.stage)
            (stands.0, c.vdev_io_start.ensures.far.ready stands.1);
      },
      c.new-child.ensures.stands,
    )

pub returns-in-Ok-None-clause-over : goal.returns-in-Ok-None-clause-over
returns-in-Ok-None-clause-over c =
    let at = c.args.self.now in
    let h = c.requires.over in
    let new = c.vdev_io_start.new.self in
    let stands = subst (λ (s : Stage). PartStands c.args.tops.now s at.is_due at.node.work) c.requires.stage h.stands in
    let none = c.vdev_io_start.ensures.none (c.in-Ok-None.is ∙ ap (λ (o : Option LeafWork). Ok o) c.in-Ok-None.field-0-is) in
    record {
      tops_are = h.tops_are;
      units = h.units;
      over = c.vdev_io_start.ensures.over;
      stands = subst (λ (s : Stage). PartStands c.args.tops.now s false new.work) (sym (write_out c.next-self.result c.next-self.ensures))
          (c.vdev_io_start.ensures.far.ready stands.1, c.in-Ok-None.ensures.issued stands.1, λ no. none);
    }

pub returns-in-Ok-Some-clause-left : goal.returns-in-Ok-Some-clause-left
returns-in-Ok-Some-clause-left c =
    let at = c.args.self.now in
    let new = c.vdev_io_start.new.self in
    let stands = subst (λ (s : Stage). PartStands c.args.tops.now s at.is_due at.node.work) c.requires.stage c.requires.over.stands in
    let share = same_share at.node.work.own.part new.work.own.part c.vdev_io_start.ensures.far.many c.vdev_io_start.ensures.far.path in
    let asked : asked_by new.work.io ≡ asked_by at.node.work.io + 1 =
    subst (λ (o : Option LeafWork). asked_by new.work.io ≡ with_one o (asked_by at.node.work.io)) c.in-Ok-Some.field-0-is c.in-Ok-Some.ensures.count in
    let few = write_few c.args.tops.now new.work new.family c.vdev_io_start.ensures.over in
    let now = ap (λ (s : Stage). write_left s new.work.io) c.requires.stage in
    let was = ap (λ (s : Stage). write_left s at.node.work.io) c.requires.stage in
    omega (arith, share, asked, few, now, was, ap pass_left c.vdev_io_start.ensures.pass, c.new-child.ensures.left)

pub returns-in-Ok-None-clause-left : goal.returns-in-Ok-None-clause-left
returns-in-Ok-None-clause-left c =
    let at = c.args.self.now in
    let new = c.vdev_io_start.new.self in
    let on = write_out c.next-self.result c.next-self.ensures in
    let stands = subst (λ (s : Stage). PartStands c.args.tops.now s at.is_due at.node.work) c.requires.stage c.requires.over.stands in
    let share = same_share at.node.work.own.part new.work.own.part c.vdev_io_start.ensures.far.many c.vdev_io_start.ensures.far.path in
    let asked : asked_by new.work.io ≡ asked_by at.node.work.io =
    subst (λ (o : Option LeafWork). asked_by new.work.io ≡ with_one o (asked_by at.node.work.io)) c.in-Ok-None.field-0-is c.in-Ok-None.ensures.count in
    let now = ap (λ (s : Stage). write_left s new.work.io) on in
    let was = ap (λ (s : Stage). write_left s at.node.work.io) c.requires.stage in
    omega (arith, share, asked, now, was, ap pass_left c.vdev_io_start.ensures.pass, ap part_stages on, ap part_stages c.requires.stage, ap due_left stands.0)

pub returns-in-Ok-None-clause-stages : goal.returns-in-Ok-None-clause-stages
returns-in-Ok-None-clause-stages c =
    inl (next_of WRITE (has WRITE) c.args.self.now.stage VdevIoStart c.next-self.result c.requires.stage (λ s lt. refl) c.next-self.ensures)

pub returns-in-Ok-Some-clause-stages : goal.returns-in-Ok-Some-clause-stages
returns-in-Ok-Some-clause-stages c = let g = grows_so (Part c.args.self.now) VdevIoStart Vdev c.requires.stage refl (λ e. cc) (λ e. cc) in (refl, g.0, g.1, g.2)

pub returns-in-Ok-None-clause-pass : goal.returns-in-Ok-None-clause-pass
returns-in-Ok-None-clause-pass c = any_stage _ _ _ c.vdev_io_start.ensures.pass

pub returns-in-Ok-Some-clause-pass : goal.returns-in-Ok-Some-clause-pass
returns-in-Ok-Some-clause-pass c = any_stage _ _ _ c.vdev_io_start.ensures.pass
