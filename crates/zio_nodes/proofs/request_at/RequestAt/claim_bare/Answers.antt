use Rattle.std.proofs.Common.{refl}
use Rattle.zio_nodes.proofs.OwnOver.{claim_stands, is_claim}
use Rattle.zio_nodes.proofs.ClaimLemmas.{claim_known}
use Rattle.zio_masks.specs.declared.stage.Stage.TheVariants.{GangAssemble, Ready}
use Rattle.zio_nodes.specs.Nodes.{moved}
use Rattle.zio_nodes.specs.declared.node.Node.TheVariants.{Request}
use Rattle.zio_nodes.proofs.PassLemmas.{other_stage, other_turn}
use Rattle.zio_nodes.proofs.request_at.RequestAt.claim_bare.Goals as goal

pub unreachable-requires : goal.unreachable-requires
unreachable-requires c =
    let at = c.args.self.now in
    let work = is_claim at.node.waiting.request.work c.requires.kind in
    let d = c.in_default in
    claim_known at.stage at.is_due at.node.own _ (claim_stands c.args.tops.now at at.stage work c.requires.over refl c.requires.behind)
    d.not-GangAssemble c.requires.issue c.requires.other d.not-Ready c.requires.before

pub returns-in-Ready-clause-moves : goal.returns-in-Ready-clause-moves
returns-in-Ready-clause-moves c = c.claim_ready.ensures.moves c.args.tops.now

pub returns-in-GangAssemble-clause-pass : goal.returns-in-GangAssemble-clause-pass
returns-in-GangAssemble-clause-pass c = other_turn _ GangAssemble (Request c.args.self.now) (Request c.claim_gang_assemble.new.self) c.claim_gang_assemble.result c.in-GangAssemble.is tt

pub returns-in-Ready-clause-pass : goal.returns-in-Ready-clause-pass
returns-in-Ready-clause-pass c = other_stage _ Ready (Request c.args.self.now) (moved (Request c.claim_ready.new.self) c.claim_ready.result) c.in-Ready.is tt
