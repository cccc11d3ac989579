use Rattle.std.proofs.Common.{refl}
use Rattle.zio_nodes.proofs.OwnOver.{is_read, read_stands}
use Rattle.zio_nodes.proofs.ReadStages.{read_known}
use Rattle.zio_masks.specs.declared.stage.Stage.TheVariants.{ReadBpInit, GangAssemble, GangIssue, Ready, VdevIoAssess, ChecksumVerify}
use Rattle.zio_nodes.specs.Nodes.{moved}
use Rattle.zio_nodes.specs.declared.node.Node.TheVariants.{Request}
use Rattle.zio_nodes.proofs.PassLemmas.{other_stage, other_turn}
use Rattle.zio_nodes.proofs.request_at.RequestAt.read_bare.Goals as goal

pub unreachable-requires : goal.unreachable-requires
unreachable-requires c =
    let at = c.args.self.now in
    let work = is_read at.node.waiting.request.work c.requires.kind in
    let d = c.in_default in
    read_known c.args.tops.now at.stage at.is_due at.node.own at.node.waiting.block (read_stands c.args.tops.now at at.stage work c.requires.over refl c.requires.behind)
    d.not-ReadBpInit d.not-GangAssemble d.not-GangIssue d.not-Ready d.not-VdevIoStart d.not-VdevIoDone d.not-VdevIoAssess d.not-ChecksumVerify c.requires.before

pub returns-in-Ready-clause-moves : goal.returns-in-Ready-clause-moves
returns-in-Ready-clause-moves c = c.read_ready.ensures.moves c.args.tops.now

pub returns-in-ChecksumVerify-clause-moves : goal.returns-in-ChecksumVerify-clause-moves
returns-in-ChecksumVerify-clause-moves c = c.read_checksum_verify.ensures.moves c.args.tops.now

pub returns-in-ReadBpInit-clause-pass : goal.returns-in-ReadBpInit-clause-pass
returns-in-ReadBpInit-clause-pass c = other_turn _ ReadBpInit (Request c.args.self.now) (Request c.read_bp_init.new.self) c.read_bp_init.result c.in-ReadBpInit.is tt

pub returns-in-GangAssemble-clause-pass : goal.returns-in-GangAssemble-clause-pass
returns-in-GangAssemble-clause-pass c = other_turn _ GangAssemble (Request c.args.self.now) (Request c.read_gang_assemble.new.self) c.read_gang_assemble.result c.in-GangAssemble.is tt

pub returns-in-GangIssue-clause-pass : goal.returns-in-GangIssue-clause-pass
returns-in-GangIssue-clause-pass c = other_turn _ GangIssue (Request c.args.self.now) (Request c.read_gang_issue.new.self) c.read_gang_issue.result c.in-GangIssue.is tt

pub returns-in-Ready-clause-pass : goal.returns-in-Ready-clause-pass
returns-in-Ready-clause-pass c = other_stage _ Ready (Request c.args.self.now) (moved (Request c.read_ready.new.self) c.read_ready.result) c.in-Ready.is tt

pub returns-in-VdevIoAssess-clause-pass : goal.returns-in-VdevIoAssess-clause-pass
returns-in-VdevIoAssess-clause-pass c = other_stage _ VdevIoAssess (Request c.args.self.now) (moved (Request c.read_io_assess.new.self) c.read_io_assess.result) c.in-VdevIoAssess.is tt

pub returns-in-ChecksumVerify-clause-pass : goal.returns-in-ChecksumVerify-clause-pass
returns-in-ChecksumVerify-clause-pass c = other_stage _ ChecksumVerify (Request c.args.self.now) (moved (Request c.read_checksum_verify.new.self) c.read_checksum_verify.result) c.in-ChecksumVerify.is tt
