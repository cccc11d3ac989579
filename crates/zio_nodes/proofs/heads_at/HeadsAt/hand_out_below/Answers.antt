use Rattle.std.proofs.Common.{arith, length, refl}
use Rattle.zio_types.specs.declared.request.ChildKind.TheVariants.{Gang}
use Rattle.zio_masks.specs.declared.stage.Stage.TheVariants.{GangAssemble}
use Rattle.zio_frames.specs.Frames.{fresh_stack}
use Rattle.zio_stages.specs.HeadsNodes.{IsHeadsNode}
use Rattle.zio_nodes.specs.Bounds.{heads_left, walk_stages}
use Rattle.zio_nodes.specs.declared.node.Node.TheVariants.{Heads}
use Rattle.zio_nodes.proofs.BoundLemmas.{kid_below, walk_grows}
use Rattle.zio_nodes.proofs.HeadsLemmas.{walk_grows_by}
use Rattle.zio_nodes.proofs.StageAllows.{grows_so}
use Rattle.zio_nodes.proofs.heads_at.HeadsAt.hand_out_below.Goals as goal

pub returns-in-Ok-clause-moves : goal.returns-in-Ok-clause-moves
returns-in-Ok-clause-moves c = λ t st now.
    walk_grows_by t st c.args.self.now _ (Heads c.new-child.result) (λ op. IsHeadsNode t c.in-Ok.walk (fresh_stack op)) (c.in-Ok.ensures.hands t st now.tops_are now.is)
    (λ op is. c.new-child.ensures.fresh t (fresh_stack op) is) c.new-child.ensures.told refl refl

pub returns-in-Ok-clause-left : goal.returns-in-Ok-clause-left
returns-in-Ok-clause-left c =
    let old = c.args.self.now.node in
    let new = c.hand_out_below.new.self in
    let child = c.in-Ok.walk in
    walk_grows old.work.walk.levels new.work.walk.levels (length old.family) (length new.family) (heads_left c.new-child.result)
    (walk_stages c.args.self.now.stage)
    c.hand_out_below.ensures.levels c.in-Ok.ensures.count c.in-Ok.ensures.few
    (omega (arith, c.new-child.ensures.left, kid_below old.work.walk.levels child.work.walk.levels c.in-Ok.ensures.below))

pub returns-in-Ok-clause-stages : goal.returns-in-Ok-clause-stages
returns-in-Ok-clause-stages c = let g = grows_so (Heads c.args.self.now) GangAssemble Gang c.requires.stage refl (λ e. cc) (λ e. cc) in (refl, g.0, g.1, g.2)
