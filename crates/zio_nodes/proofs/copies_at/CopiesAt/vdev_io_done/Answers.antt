use Rattle.std.proofs.Common.{ap, false, refl, subst, sym, true, ◌∙◌, inl, inr}
use Rattle.zio_masks.specs.declared.stage.Stage.{Stage}
use Rattle.zio_nodes.specs.CopiesAts.{ReadStands}
use Rattle.zio_nodes.specs.Told.{is_told}
use Rattle.zio_nodes.proofs.BoundLemmas.{vdev_counts}
use Rattle.zio_nodes.proofs.CopiesLemmas.{copies_go, copies_lead}
use Rattle.zio_nodes.proofs.StageLemmas.{read_done}
use Rattle.zio_masks.specs.declared.stage.Stage.TheVariants.{VdevIoDone, VdevIoStart}
use Rattle.zio_nodes.proofs.StageAllows.{goes_back, stalls_so}
use Rattle.zio_nodes.specs.declared.node.Node.{Node}
use Rattle.zio_nodes.specs.declared.node.Node.TheVariants.{Copies}
use Rattle.zio_types.specs.declared.request.Phase.TheVariants.{Done}
use Rattle.zio_types.specs.declared.request.ChildKind.TheVariants.{Vdev}
use Rattle.zio_nodes.proofs.PassLemmas.{any_stage}
use Rattle.zio_nodes.proofs.copies_at.CopiesAt.vdev_io_done.Goals as goal

pub returns-in-Wait-clause-moves : goal.returns-in-Wait-clause-moves
returns-in-Wait-clause-moves c = λ t st now. record {
  stays = record { is = now.is; told = refl; gave_same = refl; no_calls = refl };
  owing = vdev_counts st.children (c.vdev_io_done.ensures.waits c.in-Wait.is t st now.tops_are now.seated now.is.read);
}

pub returns-in-On-clause-moves : goal.returns-in-On-clause-moves
returns-in-On-clause-moves c = λ t st now.
    copies_go t st c.args.self.now _ now.is.read now.is.answers
    (ap is_told (read_done c.next-self.result c.next-self.ensures) ∙ sym (ap is_told c.requires.stage))

pub returns-in-On-clause-over : goal.returns-in-On-clause-over
returns-in-On-clause-over c = record {
  over = c.requires.over.over;
  stands = subst (λ (s : Stage). ReadStands c.args.tops.now s false c.args.self.now.node.io)
      (sym (read_done c.next-self.result c.next-self.ensures)) (c.vdev_io_done.ensures.due c.in-On.is);
}

pub returns-in-More-clause-stages : goal.returns-in-More-clause-stages
returns-in-More-clause-stages c =
    let at = c.args.self.now in
    let after : Node = Copies (record { node = at.node; stage = VdevIoStart; is_due = true }) in
    inr (inl (goes_back c.args.tops.now (Copies at) after c.requires.stage (c.vdev_io_done.ensures.more c.in-More.is), refl))

pub returns-in-On-clause-stages : goal.returns-in-On-clause-stages
returns-in-On-clause-stages c = inl (copies_lead c.args.self.now VdevIoDone c.next-self.result c.requires.stage c.next-self.ensures)

pub returns-in-Wait-clause-stages : goal.returns-in-Wait-clause-stages
returns-in-Wait-clause-stages c =
    (refl, stalls_so c.args.self.now.stage VdevIoDone Vdev Done c.requires.stage refl)

pub returns-in-Wait-clause-pass : goal.returns-in-Wait-clause-pass
returns-in-Wait-clause-pass c = any_stage _ _ _ refl

pub returns-in-More-clause-pass : goal.returns-in-More-clause-pass
returns-in-More-clause-pass c = any_stage _ _ _ refl

pub returns-in-On-clause-pass : goal.returns-in-On-clause-pass
returns-in-On-clause-pass c = any_stage _ _ _ refl
