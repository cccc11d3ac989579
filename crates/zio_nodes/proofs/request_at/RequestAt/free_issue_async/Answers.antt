use Rattle.std.proofs.Common.{◌+◌, refl, sym, ap, subst, ◌∙◌, arith, inl}
use Rattle.zio_masks.specs.declared.stage.Stage.{Stage}
use Rattle.zio_masks.specs.declared.stage.Stage.TheVariants.{IssueAsync}
use Rattle.zio_staged.specs.Stages.{told_cost}
use Rattle.zio_stages.specs.RequestKinds.{has_gang_stages, is_gang_tree}
use Rattle.zio_nodes.specs.OwnAts.{IsFreeAtStage}
use Rattle.zio_nodes.specs.OwnBounds.{free_stages}
use Rattle.zio_nodes.specs.Told.{is_told}
use Rattle.zio_nodes.proofs.OwnLefts.{free_less}
use Rattle.zio_nodes.proofs.OwnOver.{free_over, free_stands, is_free, not_start}
use Rattle.zio_nodes.proofs.OwnStages.{behind_issue, free_queued}
use Rattle.zio_nodes.proofs.OwnBare.{still_bare}
use Rattle.zio_nodes.proofs.FirstStages.{has_done}
use Rattle.zio_nodes.proofs.FreeLemmas.{free_mask, issue_behind, issue_stages, issue_stands, issue_untold, stage_less, issue_leads}
use Rattle.zio_nodes.proofs.StageLeads.{mask_leads, gang_of_free}
use Rattle.zio_nodes.proofs.request_at.RequestAt.free_issue_async.Goals as goal

pub next-self-requires-clause-ends : goal.next-self-requires-clause-ends
next-self-requires-clause-ends c =
    let r = c.args.self.now.node in
    has_done r.waiting.request.work (has_gang_stages r.waiting.request.work r.waiting.block) c.mask-mask.result c.mask-mask.ensures

pub returns-clause-moves : goal.returns-clause-moves
returns-clause-moves c = λ tops.
    let at = c.args.self.now in
    let r = at.node in
    let work = is_free r.waiting.request.work c.requires.kind in
    let behind = not_start at.stage IssueAsync c.requires.stage (λ e. cc) in
    let gang = is_gang_tree r.waiting.block in
    let same = free_mask r.waiting.request.work r.waiting.block c.mask-mask.result work c.mask-mask.ensures in
    let is = free_queued gang c.mask-mask.result c.next-self.result same c.next-self.ensures in
    still_bare tops at c.next-self.result at.is_due (ap is_told is ∙ issue_untold gang ∙ sym (ap is_told c.requires.stage))

pub returns-clause-over : goal.returns-clause-over
returns-clause-over c = λ tops h.
    let at = c.args.self.now in
    let r = at.node in
    let work = is_free r.waiting.request.work c.requires.kind in
    let behind = not_start at.stage IssueAsync c.requires.stage (λ e. cc) in
    let gang = is_gang_tree r.waiting.block in
    let same = free_mask r.waiting.request.work r.waiting.block c.mask-mask.result work c.mask-mask.ensures in
    let is = free_queued gang c.mask-mask.result c.next-self.result same c.next-self.ensures in
    let now = free_stands tops at IssueAsync work h c.requires.stage (λ e. cc) in
    free_over tops at r c.next-self.result at.is_due work h behind refl h.over.own
    (subst (λ (s : Stage). IsFreeAtStage s at.is_due r.own r.waiting.block) (sym is) (issue_stands gang at.is_due r.own r.waiting.block refl now.0 now.1))

pub returns-clause-left : goal.returns-clause-left
returns-clause-left c =
    let at = c.args.self.now in
    let r = at.node in
    let work = is_free r.waiting.request.work c.requires.kind in
    let behind = not_start at.stage IssueAsync c.requires.stage (λ e. cc) in
    let gang = is_gang_tree r.waiting.block in
    let same = free_mask r.waiting.request.work r.waiting.block c.mask-mask.result work c.mask-mask.ensures in
    let is = free_queued gang c.mask-mask.result c.next-self.result same c.next-self.ensures in
    let less =
    stage_less r.own at.stage c.next-self.result (told_cost + told_cost + 4) (free_stages (behind_issue gang)) (ap free_stages c.requires.stage)
    (ap free_stages is) (issue_stages gang) in
    omega (
      arith,
      free_less at r c.next-self.result at.is_due 1 work behind (not_start c.next-self.result (behind_issue gang) is (issue_behind gang)) refl less,
    )

pub returns-clause-stages : goal.returns-clause-stages
returns-clause-stages c =
    let at = c.args.self.now in
    let r = at.node in
    let gang = is_gang_tree r.waiting.block in
    let same = free_mask r.waiting.request.work r.waiting.block c.mask-mask.result (is_free r.waiting.request.work c.requires.kind) c.mask-mask.ensures in
    let is = free_queued gang c.mask-mask.result c.next-self.result same c.next-self.ensures in
    inl (mask_leads at c.mask-mask.result IssueAsync c.next-self.result c.requires.stage c.mask-mask.ensures
    (issue_leads at c.next-self.result gang (gang_of_free r.waiting.request.work r.waiting.block c.requires.kind) is) c.next-self.ensures)
