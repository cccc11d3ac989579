use Rattle.std.proofs.Common.{ap}
use Rattle.zio_nodes.specs.Told.{is_told}
use Rattle.zio_nodes.proofs.HeadsLemmas.{walk_leads, walk_tells}
use Rattle.zio_nodes.proofs.StageLemmas.{walk_ready}
use Rattle.zio_masks.specs.declared.stage.Stage.TheVariants.{Ready}
use Rattle.zio_nodes.proofs.heads_at.HeadsAt.ready.Goals as goal

pub returns-clause-moves : goal.returns-clause-moves
returns-clause-moves c = λ tops t st now.
    walk_tells t st c.args.self.now _ now.is now.is (c.reads_tell_no_pointer.ensures.heads t c.args.self.now.node st now.is) (ap is_told c.requires.stage)
    (ap is_told (walk_ready c.with_gang.result c.next-self.result c.with_gang.ensures.stages c.next-self.ensures))

pub returns-clause-stages : goal.returns-clause-stages
returns-clause-stages c =
    (c.requires.stage, walk_leads c.args.self.now c.with_gang.result Ready c.next-self.result c.requires.stage c.with_gang.ensures.stages c.next-self.ensures)
