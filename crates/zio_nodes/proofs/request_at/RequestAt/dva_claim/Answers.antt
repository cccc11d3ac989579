use Rattle.std.proofs.Common.{inl, lit≤, refl}
use Rattle.zio_masks.specs.declared.stage.Stage.TheVariants.{DvaClaim, Ready}
use Rattle.zio_nodes.proofs.ClaimLemmas.{may_take}
use Rattle.zio_nodes.proofs.OwnOver.{claim_stands, is_claim}
use Rattle.zio_nodes.proofs.OwnStages.{claim_taken}
use Rattle.zio_nodes.proofs.StageLeads.{claim_leads, gang_of, gang_of_claim, last_kept}
use Rattle.zio_nodes.proofs.request_at.RequestAt.dva_claim.Goals as goal

pub take_places-requires : goal.take_places-requires
take_places-requires g c =
    let at = c.args.self.now in
    let r = at.node in
    let work = is_claim r.waiting.request.work c.requires.kind in
    let tops = g.S.Services.tops c.args.services.now in
    let now = claim_stands tops at DvaClaim work c.requires.over c.requires.stage (λ e. cc) in
    let to = claim_taken c.next.result c.next.ensures in
    record {
      over = c.requires.over;
      kind = c.requires.kind;
      stage = inl c.requires.stage;
      walked = may_take at.is_due r.own _ _ (gang_of_claim r.waiting.request.work r.waiting.block work.name work.bytes work.is) now;
      to = to;
      leads = claim_leads at DvaClaim c.next.result c.requires.kind c.requires.stage (lit≤ tt) (last_kept (gang_of at) c.next.result Ready to refl) c.next.ensures;
    }
