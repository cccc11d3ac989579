use Rattle.std.proofs.Common.{refl, subst}
use Rattle.zio_masks.specs.declared.stage.Stage.{Stage}
use Rattle.zio_nodes.specs.PartAts.{PartStands}
use Rattle.zio_nodes.proofs.BoundLemmas.{any_counts}
use Rattle.zio_nodes.proofs.PartLemmas.{part_ends}
use Rattle.zio_nodes.proofs.part_at.PartAt.done.Goals as goal

pub done-requires : goal.done-requires
done-requires c =
    let at = c.args.self.now in
    subst (λ (s : Stage). PartStands c.requires.over.0 s at.is_due at.node.work) c.requires.stage c.requires.over.1.stands

pub take_stored-requires-clause-none : goal.take_stored-requires-clause-none
take_stored-requires-clause-none c =
    let at = c.args.self.now in
    (subst (λ (s : Stage). PartStands c.requires.over.0 s at.is_due at.node.work) c.requires.stage c.requires.over.1.stands).0

pub returns-in-Ok-clause-moves : goal.returns-in-Ok-clause-moves
returns-in-Ok-clause-moves c = λ tops t st now.
    part_ends t c.args.self.now st c.in-Ok.stored now.is c.requires.stage (c.in-Ok.ensures.ended t st now.is) c.in-Ok.ensures.kept
    (c.in-Ok.ensures.places t st now.is)

pub returns-in-Wait-clause-moves : goal.returns-in-Wait-clause-moves
returns-in-Wait-clause-moves c = λ tops t st now. record {
  stays = record { is = now.is; told = refl; gave_same = refl; no_calls = refl };
  owing = any_counts c.in-Wait.kind st.children (c.done.ensures.wait c.in-Wait.kind c.in-Wait.is t st now.seated now.is);
}
