use Rattle.std.proofs.Common.{true, refl, sym, ap, subst, lit≤}
use Rattle.zio_masks.specs.declared.stage.Stage.{Stage}
use Rattle.zio_masks.specs.declared.stage.Stage.TheVariants.{Ready, Done}
use Rattle.zio_staged.specs.Stages.{told_cost}
use Rattle.zio_stages.specs.RequestKinds.{points_to_gang}
use Rattle.zio_nodes.specs.OwnAts.{IsClaimAtStage}
use Rattle.zio_nodes.specs.OwnBounds.{claim_stages}
use Rattle.zio_nodes.specs.Told.{is_told}
use Rattle.zio_nodes.proofs.OwnLefts.{claim_less}
use Rattle.zio_nodes.proofs.OwnOver.{claim_no_write, claim_over, claim_stands, is_claim, not_start}
use Rattle.zio_nodes.proofs.OwnStages.{claim_told}
use Rattle.zio_nodes.proofs.ClaimLemmas.{told_less}
use Rattle.zio_nodes.proofs.StageLeads.{claim_leads, gang_of, last_kept}
use Rattle.zio_nodes.proofs.request_at.RequestAt.claim_ready.Goals as goal

pub tell_none-requires : goal.tell_none-requires
tell_none-requires c =
    let at = c.args.self.now in
    let r = at.node in
    let work = is_claim r.waiting.request.work c.requires.kind in
    let behind = not_start at.stage Ready c.requires.stage (λ e. cc) in
    record {
      other = claim_no_write r.waiting.request.work work;
      stage = c.requires.stage;
      leads = claim_leads at Ready c.next-to.result c.requires.kind c.requires.stage (lit≤ tt)
          (last_kept (gang_of at) c.next-to.result Done (claim_told c.next-to.result c.next-to.ensures) refl) c.next-to.ensures;
      behind = ap is_told (claim_told c.next-to.result c.next-to.ensures);
    }

pub returns-clause-over : goal.returns-clause-over
returns-clause-over c = λ tops h.
    let at = c.args.self.now in
    let r = at.node in
    let work = is_claim r.waiting.request.work c.requires.kind in
    let behind = not_start at.stage Ready c.requires.stage (λ e. cc) in
    let now = claim_stands tops at Ready work h c.requires.stage (λ e. cc) in
    c.tell_none.ensures.over tops h (claim_over tops at r c.next-to.result true work h behind refl h.over.own
    (subst (λ (s : Stage). IsClaimAtStage s true r.own (points_to_gang work.bytes)) (sym (claim_told c.next-to.result c.next-to.ensures)) now))

pub returns-clause-left : goal.returns-clause-left
returns-clause-left c =
    let at = c.args.self.now in
    let r = at.node in
    let work = is_claim r.waiting.request.work c.requires.kind in
    let behind = not_start at.stage Ready c.requires.stage (λ e. cc) in
    let is = claim_told c.next-to.result c.next-to.ensures in
    c.tell_none.ensures.left (claim_less at r c.next-to.result true told_cost work behind (not_start c.next-to.result Done is (λ e. cc)) refl
    (told_less r.own at.stage c.next-to.result (ap claim_stages c.requires.stage) (ap claim_stages is)))
