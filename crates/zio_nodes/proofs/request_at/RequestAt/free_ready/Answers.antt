use Rattle.std.proofs.Common.{true, refl, sym, ap, subst, lit≤}
use Rattle.zio_masks.specs.declared.stage.Stage.{Stage}
use Rattle.zio_masks.specs.declared.stage.Stage.TheVariants.{Ready, Done}
use Rattle.zio_staged.specs.Stages.{told_cost}
use Rattle.zio_nodes.specs.OwnAts.{IsFreeAtStage}
use Rattle.zio_nodes.specs.OwnBounds.{free_stages}
use Rattle.zio_nodes.specs.Told.{is_told}
use Rattle.zio_nodes.proofs.OwnLefts.{free_less}
use Rattle.zio_nodes.proofs.OwnOver.{free_no_write, free_over, free_stands, is_free, not_start}
use Rattle.zio_nodes.proofs.OwnStages.{free_told}
use Rattle.zio_nodes.proofs.FreeLemmas.{told_less}
use Rattle.zio_nodes.proofs.StageLeads.{free_leads, gang_of, last_kept}
use Rattle.zio_nodes.proofs.request_at.RequestAt.free_ready.Goals as goal

pub tell_none-requires : goal.tell_none-requires
tell_none-requires c =
    let at = c.args.self.now in
    let r = at.node in
    let work = is_free r.waiting.request.work c.requires.kind in
    let behind = not_start at.stage Ready c.requires.stage (λ e. cc) in
    record {
      other = free_no_write r.waiting.request.work work;
      stage = c.requires.stage;
      leads = free_leads at Ready c.next-to.result c.requires.kind c.requires.stage (lit≤ tt)
          (last_kept (gang_of at) c.next-to.result Done (free_told c.next-to.result c.next-to.ensures) refl) c.next-to.ensures;
      behind = ap is_told (free_told c.next-to.result c.next-to.ensures);
    }

pub returns-clause-over : goal.returns-clause-over
returns-clause-over c = λ tops h.
    let at = c.args.self.now in
    let r = at.node in
    let work = is_free r.waiting.request.work c.requires.kind in
    let behind = not_start at.stage Ready c.requires.stage (λ e. cc) in
    let now = free_stands tops at Ready work h c.requires.stage (λ e. cc) in
    c.tell_none.ensures.over tops h (free_over tops at r c.next-to.result true work h behind refl h.over.own
    (subst (λ (s : Stage). IsFreeAtStage s true r.own r.waiting.block) (sym (free_told c.next-to.result c.next-to.ensures)) now))

pub returns-clause-left : goal.returns-clause-left
returns-clause-left c =
    let at = c.args.self.now in
    let r = at.node in
    let work = is_free r.waiting.request.work c.requires.kind in
    let behind = not_start at.stage Ready c.requires.stage (λ e. cc) in
    let is = free_told c.next-to.result c.next-to.ensures in
    c.tell_none.ensures.left (free_less at r c.next-to.result true told_cost work behind (not_start c.next-to.result Done is (λ e. cc)) refl
    (told_less r.own at.stage c.next-to.result (ap free_stages c.requires.stage) (ap free_stages is)))
