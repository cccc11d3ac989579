use Rattle.std.proofs.Common.{◌+◌, true, refl, sym, ap, subst, ◌∙◌, arith}
use Rattle.zio_masks.specs.declared.stage.Stage.{Stage}
use Rattle.zio_masks.specs.declared.stage.Stage.TheVariants.{Ready}
use Rattle.zio_staged.specs.Stages.{told_cost}
use Rattle.zio_stages.specs.RequestKinds.{has_gang_stages}
use Rattle.zio_nodes.specs.OwnAts.{IsReadAtStage}
use Rattle.zio_nodes.specs.OwnBounds.{read_stages}
use Rattle.zio_nodes.specs.StageMoves.{IsNextOf, takes_stage}
use Rattle.zio_nodes.specs.Told.{is_told}
use Rattle.zio_nodes.specs.declared.node.Node.TheVariants.{Request}
use Rattle.zio_nodes.proofs.OwnLefts.{read_less}
use Rattle.zio_nodes.proofs.OwnOver.{is_read, not_start, read_no_write, read_over, read_stands}
use Rattle.zio_nodes.proofs.ReadStages.{stage_less}
use Rattle.zio_nodes.proofs.StageCuts.{ready_behind, ready_is, ready_leads, ready_stages, ready_stands, ready_to, ready_told}
use Rattle.zio_nodes.proofs.StageLeads.{gang_of_read}
use Rattle.zio_nodes.proofs.request_at.RequestAt.read_ready.Goals as goal

pub tell_none-requires : goal.tell_none-requires
tell_none-requires c =
    let at = c.args.self.now in
    let r = at.node in
    let work = is_read r.waiting.request.work c.requires.kind in
    let gang = has_gang_stages r.waiting.request.work r.waiting.block in
    let is = ready_is c.has_gang_stages.result c.behind_ready-to.result c.behind_ready-to.ensures.gang c.behind_ready-to.ensures.plain ∙ ap ready_to c.has_gang_stages.ensures in
    record {
      other = read_no_write r.waiting.request.work work;
      stage = c.requires.stage;
      leads = subst (λ (s : Stage). IsNextOf (takes_stage (Request at)) at.stage s) (sym is) (ready_leads at gang c.requires.kind c.requires.stage refl);
      behind = ap is_told is ∙ ready_told gang;
    }

pub returns-clause-over : goal.returns-clause-over
returns-clause-over c = λ tops h.
    let at = c.args.self.now in
    let r = at.node in
    let work = is_read r.waiting.request.work c.requires.kind in
    let behind = not_start at.stage Ready c.requires.stage (λ e. cc) in
    let gang = has_gang_stages r.waiting.request.work r.waiting.block in
    let is = ready_is c.has_gang_stages.result c.behind_ready-to.result c.behind_ready-to.ensures.gang c.behind_ready-to.ensures.plain ∙ ap ready_to c.has_gang_stages.ensures in
    let now = read_stands tops at Ready work h c.requires.stage (λ e. cc) in
    c.tell_none.ensures.over tops h (read_over tops at r c.behind_ready-to.result true work h behind refl h.over.own
    (subst (λ (s : Stage). IsReadAtStage tops s true r.own r.waiting.block) (sym is)
    (ready_stands tops gang at.is_due r.own r.waiting.block (sym (gang_of_read r.waiting.request.work r.waiting.block c.requires.kind)) now)))

pub returns-clause-left : goal.returns-clause-left
returns-clause-left c =
    let at = c.args.self.now in
    let r = at.node in
    let work = is_read r.waiting.request.work c.requires.kind in
    let behind = not_start at.stage Ready c.requires.stage (λ e. cc) in
    let gang = has_gang_stages r.waiting.request.work r.waiting.block in
    let is = ready_is c.has_gang_stages.result c.behind_ready-to.result c.behind_ready-to.ensures.gang c.behind_ready-to.ensures.plain ∙ ap ready_to c.has_gang_stages.ensures in
    c.tell_none.ensures.left (read_less at r c.behind_ready-to.result true told_cost work behind (not_start c.behind_ready-to.result (ready_to gang) is (ready_behind gang)) refl
    (stage_less r.own r.own at.stage c.behind_ready-to.result at.is_due true told_cost (told_cost + told_cost + 4) (read_stages (ready_to gang) true) (omega arith)
    (ap (λ s. read_stages s at.is_due) c.requires.stage) (ap (λ s. read_stages s true) is) (ready_stages gang)))
