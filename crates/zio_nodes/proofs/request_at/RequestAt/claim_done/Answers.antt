use Rattle.std.proofs.Common.{refl, sym, ap, subst, ◌∙◌, arith}
use Rattle.std.specs.List.{list_all}
use Rattle.zio_masks.specs.declared.stage.Stage.{Stage}
use Rattle.zio_masks.specs.declared.stage.Stage.TheVariants.{Done}
use Rattle.zio_types.specs.declared.request.Phase.TheVariants.{Done as DonePhase}
use Rattle.zio_children.specs.RequestKids.{is_ended}
use Rattle.zio_stages.specs.RequestClaims.{HasEndedClaim}
use Rattle.zio_staged.specs.Stages.{told_cost}
use Rattle.zio_stages.specs.RequestKinds.{points_to_gang}
use Rattle.zio_nodes.specs.OwnAts.{IsClaimAtStage}
use Rattle.zio_nodes.specs.declared.node.Node.TheVariants.{Request}
use Rattle.zio_nodes.specs.declared.request_at.RequestAt.{RequestAt}
use Rattle.zio_nodes.proofs.OwnBare.{waits_bare}
use Rattle.zio_nodes.proofs.OwnEnds.{IsSame, lessens_from, moves_from, stays_from}
use Rattle.zio_nodes.proofs.OwnLefts.{claim_gave_same, claim_less, claim_own_left, own_pays, still_claim}
use Rattle.zio_nodes.proofs.OwnOver.{claim_no_write, claim_over, claim_stands, handed_at, is_claim, not_start}
use Rattle.zio_nodes.proofs.ClaimLemmas.{ended_less, ended_pays, found_stands}
use Rattle.zio_nodes.proofs.request_at.RequestAt.claim_done.Goals as goal

pub returns-in-Wait-clause-moves : goal.returns-in-Wait-clause-moves
returns-in-Wait-clause-moves c = λ tops.
    let at = c.args.self.now in
    let behind = not_start at.stage Done c.requires.stage (λ e. cc) in
    let handed = handed_at c.requires.over.0 at c.requires.over.1 behind in
    waits_bare tops at c.in-Wait.kind DonePhase (λ t st same seated is. c.done_null.ensures.wait c.in-Wait.kind c.in-Wait.is t st seated is handed)

pub end_claim-requires : goal.end_claim-requires
end_claim-requires c =
    let at = c.args.self.now in
    let work = is_claim at.node.waiting.request.work c.requires.kind in
    claim_stands c.requires.over.0 at Done work c.requires.over.1 c.requires.stage (λ e. cc)

pub end_found-requires : goal.end_found-requires
end_found-requires c =
    let at = c.args.self.now in
    let r = at.node in
    let work = is_claim r.waiting.request.work c.requires.kind in
    let behind = not_start at.stage Done c.requires.stage (λ e. cc) in
    let over = c.requires.over in
    let new = c.end_claim.new.self in
    record {
      found = c.end_claim.ensures.found;
      ended = ap (λ x. list_all is_ended x.kids.kids) c.end_claim.ensures.kids ∙ c.done_null.ensures.close c.in_default.is;
      other = claim_no_write new.waiting.request.work (still_claim r new c.end_claim.ensures.rest work);
      over = (
        over.0,
        claim_over over.0 at new at.stage at.is_due work over.1 behind c.end_claim.ensures.rest (c.end_claim.ensures.over over.0 over.1.over.own)
            (subst (λ (s : Stage). IsClaimAtStage s at.is_due new.own (points_to_gang work.bytes)) (sym c.requires.stage)
            (found_stands HasEndedClaim new.own c.end_claim.ensures.found)),
      );
      stage = c.requires.stage;
    }

pub returns-clause-moves : goal.returns-clause-moves
returns-clause-moves c = λ tops.
    let at = c.args.self.now in
    let r = at.node in
    let work = is_claim r.waiting.request.work c.requires.kind in
    let new = c.end_claim.new.self in
    let b : RequestAt = record { node = new; stage = at.stage; is_due = at.is_due } in
    let same : IsSame at b = record {
      is = c.end_claim.ensures.ends;
      told = refl;
      gave = claim_gave_same r new work c.end_claim.ensures.rest;
    } in
    moves_from tops at b (Request c.end_found.new.self) c.end_found.result same (c.end_found.ensures.moves tops)

pub returns-clause-over : goal.returns-clause-over
returns-clause-over c = λ tops h.
    let at = c.args.self.now in
    let r = at.node in
    let work = is_claim r.waiting.request.work c.requires.kind in
    let behind = not_start at.stage Done c.requires.stage (λ e. cc) in
    let new = c.end_claim.new.self in
    c.end_found.ensures.over tops (claim_over tops at new at.stage at.is_due work h behind c.end_claim.ensures.rest (c.end_claim.ensures.over tops h.over.own)
    (subst (λ (s : Stage). IsClaimAtStage s at.is_due new.own (points_to_gang work.bytes)) (sym c.requires.stage)
    (found_stands HasEndedClaim new.own c.end_claim.ensures.found)))

pub returns-clause-left : goal.returns-clause-left
returns-clause-left c =
    let at = c.args.self.now in
    let r = at.node in
    let work = is_claim r.waiting.request.work c.requires.kind in
    let behind = not_start at.stage Done c.requires.stage (λ e. cc) in
    let new = c.end_claim.new.self in
    let b : RequestAt = record { node = new; stage = at.stage; is_due = at.is_due } in
    let less = claim_less at new at.stage at.is_due 0 work behind behind c.end_claim.ensures.rest (ended_less r.own new.own at.stage c.end_claim.ensures.found) in
    let pays = own_pays b told_cost _ (claim_own_left b (still_claim r new c.end_claim.ensures.rest work) behind) (ended_pays new.own at.stage c.requires.stage) in
    lessens_from (Request at) (Request b) (Request c.end_found.new.self) c.end_found.result (omega (arith, less)) (c.end_found.ensures.left pays)

pub returns-clause-refused : goal.returns-clause-refused
returns-clause-refused c = λ tops.
    let at = c.args.self.now in
    let r = at.node in
    let work = is_claim r.waiting.request.work c.requires.kind in
    let new = c.end_claim.new.self in
    let b : RequestAt = record { node = new; stage = at.stage; is_due = at.is_due } in
    let same : IsSame at b = record {
      is = c.end_claim.ensures.ends;
      told = refl;
      gave = claim_gave_same r new work c.end_claim.ensures.rest;
    } in
    stays_from tops at b (Request c.end_found.new.self) c.end_found.result same (c.end_found.ensures.refused tops)
