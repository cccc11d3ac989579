use Rattle.std.proofs.Common.{refl}
use Rattle.zio_nodes.proofs.OwnOver.{free_stands, is_free}
use Rattle.zio_nodes.proofs.FreeLemmas.{free_known}
use Rattle.zio_masks.specs.declared.stage.Stage.TheVariants.{FreeBpInit, IssueAsync, GangAssemble, Ready}
use Rattle.zio_nodes.specs.Nodes.{moved}
use Rattle.zio_nodes.specs.declared.node.Node.TheVariants.{Request}
use Rattle.zio_nodes.proofs.PassLemmas.{other_stage, other_turn}
use Rattle.zio_nodes.proofs.request_at.RequestAt.free_bare.Goals as goal

pub unreachable-requires : goal.unreachable-requires
unreachable-requires c =
    let at = c.args.self.now in
    let work = is_free at.node.waiting.request.work c.requires.kind in
    let d = c.in_default in
    free_known at.stage at.is_due at.node.own at.node.waiting.block (free_stands c.requires.over.0 at at.stage work c.requires.over.1 refl c.requires.behind)
    d.not-FreeBpInit d.not-IssueAsync d.not-GangAssemble c.requires.issue c.requires.other d.not-Ready c.requires.before

pub returns-in-FreeBpInit-clause-pass : goal.returns-in-FreeBpInit-clause-pass
returns-in-FreeBpInit-clause-pass c = other_turn _ FreeBpInit (Request c.args.self.now) (Request c.free_bp_init.new.self) c.free_bp_init.result c.in-FreeBpInit.is tt

pub returns-in-IssueAsync-clause-pass : goal.returns-in-IssueAsync-clause-pass
returns-in-IssueAsync-clause-pass c = other_stage _ IssueAsync (Request c.args.self.now) (moved (Request c.free_issue_async.new.self) c.free_issue_async.result) c.in-IssueAsync.is tt

pub returns-in-GangAssemble-clause-pass : goal.returns-in-GangAssemble-clause-pass
returns-in-GangAssemble-clause-pass c = other_turn _ GangAssemble (Request c.args.self.now) (Request c.free_gang_assemble.new.self) c.free_gang_assemble.result c.in-GangAssemble.is tt

pub returns-in-Ready-clause-pass : goal.returns-in-Ready-clause-pass
returns-in-Ready-clause-pass c = other_stage _ Ready (Request c.args.self.now) (moved (Request c.free_ready.new.self) c.free_ready.result) c.in-Ready.is tt
