use Rattle.std.proofs.Common.{ap, ◌∙◌, inr, lit≤, refl}
use Rattle.zio_masks.specs.declared.stage.Stage.TheVariants.{GangIssue}
use Rattle.zio_types.specs.declared.request.Phase.TheVariants.{Done}
use Rattle.zio_stages.proofs.RequestReadLemmas.{nothing}
use Rattle.zio_nodes.specs.StageMoves.{stalls_at}
use Rattle.zio_nodes.specs.declared.node.Node.TheVariants.{Request}
use Rattle.zio_nodes.proofs.FreeLemmas.{may_go_back}
use Rattle.zio_nodes.proofs.OwnBare.{moves_with, waits_bare}
use Rattle.zio_nodes.proofs.OwnOver.{free_stands, is_free}
use Rattle.zio_nodes.proofs.OwnStages.{gang_issued}
use Rattle.zio_nodes.proofs.StageAllows.{stalls_so}
use Rattle.zio_nodes.proofs.StageLeads.{cut_leads, gang_of_free}
use Rattle.zio_nodes.proofs.request_at.RequestAt.free_gang_issue.Goals as goal

pub returns-in-Some-clause-moves : goal.returns-in-Some-clause-moves
returns-in-Some-clause-moves g c =
    let s = c.args.services.now in
    let tops = g.S.Services.tops s in
    moves_with g.S.Services.made tops s (Request c.args.self.now) _ (g.met.S.Services.made_none s)
    (waits_bare tops c.args.self.now c.in-Some.kind Done
    (λ t st same seated is. c.gang_issue_free.ensures.wait c.in-Some.kind c.in-Some.is t st seated is))

pub returns-in-Some-clause-stages : goal.returns-in-Some-clause-stages
returns-in-Some-clause-stages g c =
    (refl, stalls_so c.args.self.now.stage GangIssue c.in-Some.kind Done c.requires.stage (ap (λ k. stalls_at GangIssue k Done) (c.gang_issue_free.ensures.kind c.in-Some.kind c.in-Some.is)))

pub give_places-requires : goal.give_places-requires
give_places-requires g c =
    let at = c.args.self.now in
    let r = at.node in
    let work = is_free r.waiting.request.work c.requires.kind in
    let tops = g.S.Services.tops c.args.services.now in
    let now = free_stands tops at GangIssue work c.requires.over c.requires.stage (λ e. cc) in
    let walked = c.gang_issue_free.ensures.walked (nothing c.gang_issue_free.result c.in_default.not-Some) now.1 in
    let back = may_go_back r.waiting.block r.own walked now.0 in
    record {
      over = c.requires.over;
      kind = c.requires.kind;
      stage = inr c.requires.stage;
      walked = back.walked;
      frees = back.frees;
      failed = back.failed;
      to = gang_issued c.next.result c.next.ensures;
      leads = cut_leads at GangIssue c.next.result c.requires.stage (gang_of_free r.waiting.request.work r.waiting.block c.requires.kind ∙ now.2) (lit≤ tt) c.next.ensures;
    }
