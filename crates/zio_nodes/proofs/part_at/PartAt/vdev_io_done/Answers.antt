use Rattle.std.proofs.Common.{◌≡◌, ◌∙◌, Bool, ap, arith, false, refl, subst, sym, true, inl, inr}
use Rattle.zio_masks.specs.declared.stage.Stage.{Stage}
use Rattle.zio_stages.proofs.PartMoves.{does_nothing}
use Rattle.zio_nodes.specs.Bounds.{due_left, part_stages, write_left}
use Rattle.zio_nodes.specs.PartAts.{PartStands}
use Rattle.zio_nodes.specs.Told.{is_told}
use Rattle.zio_nodes.proofs.BoundLemmas.{vdev_counts}
use Rattle.zio_nodes.proofs.PartLemmas.{part_goes}
use Rattle.zio_nodes.proofs.StageLemmas.{write_done}
use Rattle.zio_masks.specs.declared.stage.Stage.TheVariants.{VdevIoDone, VdevIoStart}
use Rattle.zio_nodes.proofs.StageLeads.{next_of}
use Rattle.zio_masks.specs.declared.pipeline.TheConstants.{WRITE}
use Rattle.zio_masks.specs.Stages.{has}
use Rattle.zio_nodes.proofs.StageAllows.{goes_back, stalls_so}
use Rattle.zio_nodes.specs.declared.node.Node.{Node}
use Rattle.zio_nodes.specs.declared.node.Node.TheVariants.{Part}
use Rattle.zio_types.specs.declared.request.Phase.TheVariants.{Done}
use Rattle.zio_types.specs.declared.request.ChildKind.TheVariants.{Vdev}
use Rattle.zio_nodes.proofs.PassLemmas.{any_stage}
use Rattle.zio_nodes.proofs.part_at.PartAt.vdev_io_done.Goals as goal

pub returns-in-Wait-clause-moves : goal.returns-in-Wait-clause-moves
returns-in-Wait-clause-moves c = λ t st now. record {
  stays = record { is = now.is; told = refl; gave_same = refl; no_calls = refl };
  owing = vdev_counts st.children (c.vdev_io_done.ensures.waits c.in-Wait.is t st now.tops_are now.seated now.is);
}

pub returns-in-More-clause-moves : goal.returns-in-More-clause-moves
returns-in-More-clause-moves c = λ t st now. part_goes t st c.args.self.now _ _ (does_nothing t st _ now.is) (sym (ap is_told c.requires.stage))

pub returns-in-On-clause-moves : goal.returns-in-On-clause-moves
returns-in-On-clause-moves c = λ t st now.
    part_goes t st c.args.self.now _ _ (does_nothing t st _ now.is)
    (ap is_told (write_done c.next-self.result c.next-self.ensures) ∙ sym (ap is_told c.requires.stage))

pub returns-in-More-clause-over : goal.returns-in-More-clause-over
returns-in-More-clause-over c =
    let at = c.args.self.now in
    let h = c.requires.over in
    let stands = subst (λ (s : Stage). PartStands c.args.tops.now s at.is_due at.node.work) c.requires.stage h.stands in
    record { tops_are = h.tops_are; units = h.units; over = h.over; stands = (refl, stands.0) }

pub returns-in-On-clause-over : goal.returns-in-On-clause-over
returns-in-On-clause-over c =
    let at = c.args.self.now in
    let h = c.requires.over in
    let stands = subst (λ (s : Stage). PartStands c.args.tops.now s at.is_due at.node.work) c.requires.stage h.stands in
    record {
      tops_are = h.tops_are;
      units = h.units;
      over = h.over;
      stands = subst (λ (s : Stage). PartStands c.args.tops.now s false at.node.work) (sym (write_done c.next-self.result c.next-self.ensures))
          (stands.0, stands.1, c.vdev_io_done.ensures.due c.in-On.is);
    }

-- an operation is due, so it was noted
due_noted : (due : Bool) → (due ≡ false → ⊥) → due ≡ true
due_noted true never = refl
due_noted false never = absurd (never refl)

pub returns-in-More-clause-left : goal.returns-in-More-clause-left
returns-in-More-clause-left c =
    let at = c.args.self.now in
    let stands = subst (λ (s : Stage). PartStands c.args.tops.now s at.is_due at.node.work) c.requires.stage c.requires.over.stands in
    let due : at.is_due ≡ true = due_noted at.is_due (λ no. stands.2 no (c.vdev_io_done.ensures.more c.in-More.is)) in
    let was = ap (λ (s : Stage). write_left s at.node.work.io) c.requires.stage in
    omega (arith, was, ap part_stages c.requires.stage, ap due_left due)

pub returns-in-On-clause-left : goal.returns-in-On-clause-left
returns-in-On-clause-left c =
    let at = c.args.self.now in
    let on = write_done c.next-self.result c.next-self.ensures in
    let now = ap (λ (s : Stage). write_left s at.node.work.io) on in
    let was = ap (λ (s : Stage). write_left s at.node.work.io) c.requires.stage in
    omega (arith, now, was, ap part_stages on, ap part_stages c.requires.stage)

pub returns-in-More-clause-stages : goal.returns-in-More-clause-stages
returns-in-More-clause-stages c =
    let at = c.args.self.now in
    let after : Node = Part (record { node = at.node; stage = VdevIoStart; is_due = true }) in
    inr (inl (goes_back c.args.tops.now (Part at) after c.requires.stage (c.vdev_io_done.ensures.more c.in-More.is), refl))

pub returns-in-On-clause-stages : goal.returns-in-On-clause-stages
returns-in-On-clause-stages c =
    inl (next_of WRITE (has WRITE) c.args.self.now.stage VdevIoDone c.next-self.result c.requires.stage (λ s lt. refl) c.next-self.ensures)

pub returns-in-Wait-clause-stages : goal.returns-in-Wait-clause-stages
returns-in-Wait-clause-stages c =
    (refl, stalls_so c.args.self.now.stage VdevIoDone Vdev Done c.requires.stage refl)

pub returns-in-Wait-clause-pass : goal.returns-in-Wait-clause-pass
returns-in-Wait-clause-pass c = any_stage _ _ _ refl

pub returns-in-More-clause-pass : goal.returns-in-More-clause-pass
returns-in-More-clause-pass c = any_stage _ _ _ refl

pub returns-in-On-clause-pass : goal.returns-in-On-clause-pass
returns-in-On-clause-pass c = any_stage _ _ _ refl
