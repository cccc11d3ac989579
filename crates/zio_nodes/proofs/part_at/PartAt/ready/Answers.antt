use Rattle.std.proofs.Common.{ap, arith, refl, subst, sym, true}
use Rattle.zio_types.specs.declared.request.Phase.TheVariants.{Ready as ReadyPhase}
use Rattle.zio_masks.specs.declared.stage.Stage.{Stage}
use Rattle.zio_nodes.specs.Bounds.{due_left, part_stages, write_left}
use Rattle.zio_nodes.specs.PartAts.{PartStands}
use Rattle.zio_nodes.specs.Told.{is_told}
use Rattle.zio_nodes.proofs.BoundLemmas.{owed_counts}
use Rattle.zio_nodes.proofs.PartLemmas.{part_tells}
use Rattle.zio_nodes.proofs.StageLemmas.{write_ready}
use Rattle.zio_masks.specs.declared.stage.Stage.TheVariants.{Ready}
use Rattle.zio_nodes.proofs.StageLeads.{next_of}
use Rattle.zio_masks.specs.declared.pipeline.TheConstants.{WRITE}
use Rattle.zio_masks.specs.Stages.{has}
use Rattle.zio_nodes.proofs.StageAllows.{stalls_so}
use Rattle.zio_nodes.specs.StageMoves.{stalls_at}
use Rattle.zio_nodes.proofs.part_at.PartAt.ready.Goals as goal

pub ready-requires-clause-placed : goal.ready-requires-clause-placed
ready-requires-clause-placed c =
    let at = c.args.self.now in
    (subst (λ (s : Stage). PartStands c.requires.over.0 s at.is_due at.node.work) c.requires.stage c.requires.over.1.stands).2

pub ready-requires-clause-none : goal.ready-requires-clause-none
ready-requires-clause-none c =
    let at = c.args.self.now in
    (subst (λ (s : Stage). PartStands c.requires.over.0 s at.is_due at.node.work) c.requires.stage c.requires.over.1.stands).1

pub returns-in-Wait-clause-moves : goal.returns-in-Wait-clause-moves
returns-in-Wait-clause-moves c = λ tops t st now. record {
  stays = record { is = now.is; told = refl; gave_same = refl; no_calls = refl };
  owing = owed_counts c.in-Wait.kind ReadyPhase st.children (c.ready.ensures.wait c.in-Wait.kind c.in-Wait.is t st now.seated now.is);
}

pub returns-in-Tell-clause-moves : goal.returns-in-Tell-clause-moves
returns-in-Tell-clause-moves c = λ tops t st now.
    part_tells t st c.args.self.now _ c.in-Tell.pointer now.is now.is (c.ready.ensures.tell c.in-Tell.pointer c.in-Tell.is t st now.is)
    (ap is_told c.requires.stage) (ap is_told (write_ready c.next-self.result c.next-self.ensures))

pub returns-in-Tell-clause-over : goal.returns-in-Tell-clause-over
returns-in-Tell-clause-over c = λ tops h. record {
  tops_are = h.tops_are;
  units = h.units;
  over = h.over;
  stands = subst (λ (s : Stage). PartStands tops s true c.args.self.now.node.work) (sym (write_ready c.next-self.result c.next-self.ensures))
      (refl, c.ready.ensures.ready c.in-Tell.pointer c.in-Tell.is);
}

pub returns-in-Tell-clause-left : goal.returns-in-Tell-clause-left
returns-in-Tell-clause-left c =
    let at = c.args.self.now in
    let on = write_ready c.next-self.result c.next-self.ensures in
    let stands = subst (λ (s : Stage). PartStands c.requires.over.0 s at.is_due at.node.work) c.requires.stage c.requires.over.1.stands in
    let now = ap (λ (s : Stage). write_left s at.node.work.io) on in
    let was = ap (λ (s : Stage). write_left s at.node.work.io) c.requires.stage in
    omega (arith, now, was, ap part_stages on, ap part_stages c.requires.stage, ap due_left stands.0)

pub returns-in-Tell-clause-stages : goal.returns-in-Tell-clause-stages
returns-in-Tell-clause-stages c =
    (c.requires.stage, next_of WRITE (has WRITE) c.args.self.now.stage Ready c.next-self.result c.requires.stage (λ s lt. refl) c.next-self.ensures)

pub returns-in-Wait-clause-stages : goal.returns-in-Wait-clause-stages
returns-in-Wait-clause-stages c =
    (refl, stalls_so c.args.self.now.stage Ready c.in-Wait.kind ReadyPhase c.requires.stage (ap (λ k. stalls_at Ready k ReadyPhase) (c.ready.ensures.kind c.in-Wait.kind c.in-Wait.is)))
