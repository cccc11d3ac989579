use Rattle.zio_masks.specs.declared.stage.Stage.TheVariants.{Start, ReadBpInit, Ready, VdevIoAssess, ChecksumVerify}
use Rattle.zio_nodes.specs.Nodes.{moved}
use Rattle.zio_nodes.specs.declared.node.Node.TheVariants.{Copies}
use Rattle.zio_nodes.proofs.PassLemmas.{other_stage}
use Rattle.zio_nodes.proofs.copies_at.CopiesAt.run_stage.Goals as goal

pub returns-in-Start-clause-moves : goal.returns-in-Start-clause-moves
returns-in-Start-clause-moves c = c.start.ensures.moves c.args.tops.now

pub returns-in-ReadBpInit-clause-moves : goal.returns-in-ReadBpInit-clause-moves
returns-in-ReadBpInit-clause-moves c = c.read_bp_init.ensures.moves c.args.tops.now

pub returns-in-Ready-clause-moves : goal.returns-in-Ready-clause-moves
returns-in-Ready-clause-moves c = c.ready.ensures.moves c.args.tops.now

pub returns-in-Start-clause-pass : goal.returns-in-Start-clause-pass
returns-in-Start-clause-pass c = other_stage _ Start (Copies c.args.self.now) (moved (Copies c.start.new.self) c.start.result) c.in-Start.is tt

pub returns-in-ReadBpInit-clause-pass : goal.returns-in-ReadBpInit-clause-pass
returns-in-ReadBpInit-clause-pass c = other_stage _ ReadBpInit (Copies c.args.self.now) (moved (Copies c.read_bp_init.new.self) c.read_bp_init.result) c.in-ReadBpInit.is tt

pub returns-in-Ready-clause-pass : goal.returns-in-Ready-clause-pass
returns-in-Ready-clause-pass c = other_stage _ Ready (Copies c.args.self.now) (moved (Copies c.ready.new.self) c.ready.result) c.in-Ready.is tt

pub returns-in-VdevIoAssess-clause-pass : goal.returns-in-VdevIoAssess-clause-pass
returns-in-VdevIoAssess-clause-pass c = other_stage _ VdevIoAssess (Copies c.args.self.now) (moved (Copies c.vdev_io_assess.new.self) c.vdev_io_assess.result) c.in-VdevIoAssess.is tt

pub returns-in-ChecksumVerify-clause-pass : goal.returns-in-ChecksumVerify-clause-pass
returns-in-ChecksumVerify-clause-pass c = other_stage _ ChecksumVerify (Copies c.args.self.now) (moved (Copies c.checksum_verify.new.self) c.checksum_verify.result) c.in-ChecksumVerify.is tt
