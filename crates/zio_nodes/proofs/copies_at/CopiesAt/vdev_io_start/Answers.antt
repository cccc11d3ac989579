use Rattle.std.proofs.Common.{[], None, Ok, Option, Some, ap, false, refl, subst, sym, ◌∙◌, inl}
use Rattle.zio_masks.specs.declared.stage.Stage.{Stage}
use Rattle.zio_trace.specs.Tasks.{Leaf}
use Rattle.zio_stages.specs.CopiesNodes.{IsCopiesNode}
use Rattle.zio_stages.specs.NodeIos.{StartsBy}
use Rattle.zio_stages.specs.declared.leaf.LeafWork.{LeafWork}
use Rattle.zio_nodes.specs.CopiesAts.{ReadStands}
use Rattle.zio_nodes.specs.Told.{is_told}
use Rattle.zio_nodes.proofs.CopiesLemmas.{answers_handed, asks_as_read, copies_go, copies_lead}
use Rattle.zio_nodes.proofs.StageLemmas.{read_out}
use Rattle.zio_masks.specs.declared.stage.Stage.TheVariants.{VdevIoStart}
use Rattle.zio_types.specs.declared.request.ChildKind.TheVariants.{Vdev}
use Rattle.zio_nodes.specs.declared.node.Node.TheVariants.{Copies}
use Rattle.zio_nodes.proofs.StageAllows.{grows_so}
use Rattle.zio_nodes.proofs.PassLemmas.{any_stage}
use Rattle.zio_nodes.proofs.copies_at.CopiesAt.vdev_io_start.Goals as goal

pub returns-in-Ok-Some-clause-moves : goal.returns-in-Ok-Some-clause-moves
returns-in-Ok-Some-clause-moves c = λ t st now.
    let hands : StartsBy t st (Some c.in-Ok-Some.work) (IsCopiesNode t c.vdev_io_start.new.self) =
    subst (λ (o : Option LeafWork). StartsBy t st o (IsCopiesNode t c.vdev_io_start.new.self)) c.in-Ok-Some.field-0-is
    (c.in-Ok-Some.ensures.starts t st now.tops_are now.is.read) in
    record {
      dids = [];
      stack = st;
      does = refl;
      opens = tt;
      calls_are = refl;
      op = Leaf hands.act;
      part = asks_as_read t c.args.self.now st now.is;
      asks = hands.next;
      is = record { read = hands.after; answers = answers_handed st (Leaf hands.act) now.is.answers };
      told = refl;
      gave_same = refl;
      child_is = c.new-child.ensures.fresh t hands.act hands.child_is;
      child_told = λ no. absurd (cc);
      child_gave = refl;
      of_kind = refl;
    }

pub returns-in-Ok-None-clause-moves : goal.returns-in-Ok-None-clause-moves
returns-in-Ok-None-clause-moves c = λ t st now.
    let stays : StartsBy t st None (IsCopiesNode t c.vdev_io_start.new.self) =
    subst (λ (o : Option LeafWork). StartsBy t st o (IsCopiesNode t c.vdev_io_start.new.self)) c.in-Ok-None.field-0-is
    (c.in-Ok-None.ensures.starts t st now.tops_are now.is.read) in
    copies_go t st c.args.self.now _ stays now.is.answers
    (ap is_told (read_out c.next-self.result c.next-self.ensures) ∙ sym (ap is_told c.requires.stage))

pub returns-in-Ok-None-clause-over : goal.returns-in-Ok-None-clause-over
returns-in-Ok-None-clause-over c = record {
  over = c.vdev_io_start.ensures.over;
  stands = subst (λ (s : Stage). ReadStands c.args.tops.now s false c.vdev_io_start.new.self.io) (sym (read_out c.next-self.result c.next-self.ensures))
      (λ is. c.vdev_io_start.ensures.none (c.in-Ok-None.is ∙ ap (λ (o : Option LeafWork). Ok o) c.in-Ok-None.field-0-is));
}

pub returns-in-Ok-None-clause-stages : goal.returns-in-Ok-None-clause-stages
returns-in-Ok-None-clause-stages c = inl (copies_lead c.args.self.now VdevIoStart c.next-self.result c.requires.stage c.next-self.ensures)

pub returns-in-Ok-Some-clause-stages : goal.returns-in-Ok-Some-clause-stages
returns-in-Ok-Some-clause-stages c = let g = grows_so (Copies c.args.self.now) VdevIoStart Vdev c.requires.stage refl (λ e. cc) (λ e. cc) in (refl, g.0, g.1, g.2)

pub returns-in-Ok-None-clause-pass : goal.returns-in-Ok-None-clause-pass
returns-in-Ok-None-clause-pass c = any_stage _ _ _ c.vdev_io_start.ensures.pass

pub returns-in-Ok-Some-clause-pass : goal.returns-in-Ok-Some-clause-pass
returns-in-Ok-Some-clause-pass c = any_stage _ _ _ c.vdev_io_start.ensures.pass
