use Rattle.zio_masks.specs.declared.stage.Stage.TheVariants.{Ready, VdevIoAssess}
use Rattle.zio_nodes.specs.Nodes.{moved}
use Rattle.zio_nodes.specs.declared.node.Node.TheVariants.{Part}
use Rattle.zio_nodes.proofs.PassLemmas.{other_stage}
use Rattle.zio_nodes.proofs.part_at.PartAt.run_bare.Goals as goal

pub returns-in-Ready-clause-moves : goal.returns-in-Ready-clause-moves
returns-in-Ready-clause-moves c = c.ready.ensures.moves c.args.tops.now

pub returns-in-Start-clause-moves : goal.returns-in-Start-clause-moves
returns-in-Start-clause-moves c = c.go_on.ensures.moves c.args.tops.now

pub returns-in-Ready-clause-pass : goal.returns-in-Ready-clause-pass
returns-in-Ready-clause-pass c = other_stage _ Ready (Part c.args.self.now) (moved (Part c.ready.new.self) c.ready.result) c.in-Ready.is tt

pub returns-in-VdevIoAssess-clause-pass : goal.returns-in-VdevIoAssess-clause-pass
returns-in-VdevIoAssess-clause-pass c = other_stage _ VdevIoAssess (Part c.args.self.now) (moved (Part c.vdev_io_assess.new.self) c.vdev_io_assess.result) c.in-VdevIoAssess.is tt
