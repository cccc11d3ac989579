use Rattle.std.proofs.Common.{List, [], refl, sym, ap, subst, ◌∙◌, arith, inl}
use Rattle.zio_types.specs.declared.place.Top.{Top}
use Rattle.zio_masks.specs.declared.stage.Stage.{Stage}
use Rattle.zio_masks.specs.declared.stage.Stage.TheVariants.{Ready}
use Rattle.zio_stages.specs.OwnParts.{DoesThen}
use Rattle.zio_stages.specs.RequestKinds.{points_to_gang}
use Rattle.zio_stages.specs.RequestNodes.{IsOwnOver, IsRequestNode}
use Rattle.zio_stages.proofs.PartMoves.{does_map, does_then}
use Rattle.zio_nodes.specs.OwnAts.{IsClaimAtStage}
use Rattle.zio_nodes.specs.Told.{is_told}
use Rattle.zio_nodes.proofs.ClaimLemmas.{behind_at, rest_then, taken_claim, taken_less, taken_most, takes_at, untold_at, walked_then}
use Rattle.zio_nodes.proofs.OwnBare.{does_with, does_with_refused, refused_bare, stays_with}
use Rattle.zio_nodes.proofs.OwnLefts.{claim_gave_same, claim_less}
use Rattle.zio_nodes.proofs.OwnOver.{claim_over, claim_work, handed_at, is_claim, not_start}
use Rattle.zio_nodes.specs.declared.node.Node.TheVariants.{Request}
use Rattle.zio_nodes.proofs.request_at.RequestAt.take_places.Goals as goal

pub begin_claim-requires : goal.begin_claim-requires
begin_claim-requires g c =
    let at = c.args.self.now in
    let r = at.node in
    let work = is_claim r.waiting.request.work c.requires.kind in
    let tops = g.S.Services.tops c.args.services.now in
    record {
      begun = taken_claim r.own _ c.requires.walked;
      handed = handed_at tops at c.requires.over (behind_at at.stage c.requires.stage);
      claim = claim_work r.waiting.request.work work;
    }

pub returns-in_default-clause-refused : goal.returns-in_default-clause-refused
returns-in_default-clause-refused g c =
    let s = c.args.services.now in
    let at = c.args.self.now in
    let tops = g.S.Services.tops s in
    stays_with g.S.Services.made tops s (Request at) _ (g.met.S.Services.made_none s) (refused_bare tops at _ at.stage at.is_due c.in_default.ensures.err refl)

pub dva_claim-requires : goal.dva_claim-requires
dva_claim-requires g c =
    let r = c.args.self.now.node in
    let mid = c.begin_claim.new.self in
    subst (λ (ts : List Top). IsOwnOver ts mid.own mid.family) c.tops.ensures
    (c.begin_claim.ensures.over (subst (λ (ts : List Top). IsOwnOver ts r.own r.family) (sym c.tops.ensures) c.requires.over.over.own))

pub returns-in-Ok-dva_claim-clause-moves : goal.returns-in-Ok-dva_claim-clause-moves
returns-in-Ok-dva_claim-clause-moves g c =
    let at = c.args.self.now in
    let r = at.node in
    let work = is_claim r.waiting.request.work c.requires.kind in
    let mid = c.begin_claim.new.self in
    let new = c.dva_claim.new.self in
    let rest = rest_then r mid new c.begin_claim.ensures.rest c.dva_claim.ensures.rest in
    let does = c.dva_claim.ensures.does in
    does_with g.S.Services.made (g.S.Services.tops c.args.services.now) c.args.services.now c.dva_claim.new.services at new c.args.to at.is_due does.0 does.1
    (takes_at at does.0 c.requires.kind c.requires.stage does.3)
    (λ t st same is. does_then t st [] does.0 (IsRequestNode t new)
    (does_map t st [] (IsRequestNode t mid) (λ b. DoesThen t b does.0 (IsRequestNode t new)) (λ b h. does.2 t b h) (c.in-Ok.ensures.does t st (same ∙ sym c.tops.ensures) is)))
    (ap is_told c.requires.to ∙ sym (untold_at at.stage c.requires.stage)) (claim_gave_same r new work rest)

pub returns-in-Ok-dva_claim-clause-over : goal.returns-in-Ok-dva_claim-clause-over
returns-in-Ok-dva_claim-clause-over g c =
    let at = c.args.self.now in
    let r = at.node in
    let work = is_claim r.waiting.request.work c.requires.kind in
    let mid = c.begin_claim.new.self in
    let new = c.dva_claim.new.self in
    let rest = rest_then r mid new c.begin_claim.ensures.rest c.dva_claim.ensures.rest in
    let walked = walked_then r mid _ c.requires.walked c.begin_claim.ensures.still c.in-Ok.ensures.plain in
    claim_over (g.S.Services.tops c.args.services.now) at new c.args.to at.is_due work c.requires.over (behind_at at.stage c.requires.stage) rest c.dva_claim.ensures.over
    (subst (λ (s : Stage). IsClaimAtStage s at.is_due new.own (points_to_gang work.bytes)) (sym c.requires.to) (c.in-Ok-dva_claim.ensures.ended walked))

pub returns-in-Ok-dva_claim-clause-left : goal.returns-in-Ok-dva_claim-clause-left
returns-in-Ok-dva_claim-clause-left g c =
    let at = c.args.self.now in
    let r = at.node in
    let work = is_claim r.waiting.request.work c.requires.kind in
    let mid = c.begin_claim.new.self in
    let new = c.dva_claim.new.self in
    let rest = rest_then r mid new c.begin_claim.ensures.rest c.dva_claim.ensures.rest in
    let walked = walked_then r mid _ c.requires.walked c.begin_claim.ensures.still c.in-Ok.ensures.plain in
    let less = taken_less r.own new.own at.stage c.args.to c.requires.stage c.requires.to (taken_most r.own new.own (c.in-Ok-dva_claim.ensures.ended walked)) in
    omega (
      arith,
      claim_less at new c.args.to at.is_due 1 work (behind_at at.stage c.requires.stage) (not_start c.args.to Ready c.requires.to (λ e. cc)) rest less,
    )

pub returns-in-Err-clause-refused : goal.returns-in-Err-clause-refused
returns-in-Err-clause-refused g c =
    let at = c.args.self.now in
    let r = at.node in
    let work = is_claim r.waiting.request.work c.requires.kind in
    let mid = c.begin_claim.new.self in
    let new = c.dva_claim.new.self in
    let rest = rest_then r mid new c.begin_claim.ensures.rest c.dva_claim.ensures.rest in
    let does = c.dva_claim.ensures.does in
    does_with_refused g.S.Services.made (g.S.Services.tops c.args.services.now) c.args.services.now c.dva_claim.new.services at new at.stage at.is_due does.0 does.1
    (takes_at at does.0 c.requires.kind c.requires.stage does.3)
    (λ t st same is. does_then t st [] does.0 (IsRequestNode t new)
    (does_map t st [] (IsRequestNode t mid) (λ b. DoesThen t b does.0 (IsRequestNode t new)) (λ b h. does.2 t b h) (c.in-Ok.ensures.does t st (same ∙ sym c.tops.ensures) is)))
    refl (claim_gave_same r new work rest)

pub returns-in-Ok-dva_claim-clause-stages : goal.returns-in-Ok-dva_claim-clause-stages
returns-in-Ok-dva_claim-clause-stages g c = inl c.requires.leads
