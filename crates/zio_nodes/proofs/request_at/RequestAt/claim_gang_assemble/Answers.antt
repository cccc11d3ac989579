use Rattle.std.proofs.Common.{◌≤◌, ◌<◌, ◌+◌, inr, Ok, Option, refl, sym, ap, subst, ◌∙◌, arith, inl}
use Rattle.std.specs.Prelude.{IfSome}
use Rattle.zio_masks.specs.declared.stage.Stage.{Stage}
use Rattle.zio_masks.specs.declared.stage.Stage.TheVariants.{GangAssemble, GangIssue}
use Rattle.zio_types.specs.declared.request.ChildKind.TheVariants.{Gang}
use Rattle.zio_staged.specs.Stages.{told_cost}
use Rattle.zio_frames.specs.Frames.{fresh_stack}
use Rattle.zio_stages.specs.HeadsNodes.{IsHeadsNode}
use Rattle.zio_stages.specs.RequestClaims.{IsClaimWith, IsClaimingWith, IsPastDue, IsWalkDue}
use Rattle.zio_stages.specs.RequestKinds.{points_to_gang}
use Rattle.zio_stages.specs.RequestNodes.{IsRequestNode}
use Rattle.zio_stages.specs.RequestReads.{HandsWalk, IsWalkOver, IsWholeWalk}
use Rattle.zio_stages.specs.declared.heads_node.HeadsNode.{HeadsNode}
use Rattle.zio_stages.specs.declared.request_node.RequestNode.{RequestNode}
use Rattle.zio_nodes.specs.Bounds.{walk_max}
use Rattle.zio_nodes.specs.OwnAts.{IsClaimAtStage}
use Rattle.zio_nodes.specs.OwnBounds.{claim_stages, claiming_left}
use Rattle.zio_nodes.specs.declared.node.Node.TheVariants.{Heads, Request}
use Rattle.zio_nodes.specs.Told.{is_told}
use Rattle.zio_nodes.proofs.OwnLefts.{claim_gave_same, claim_less}
use Rattle.zio_nodes.proofs.OwnOver.{claim_over, claim_stands, claim_work, handed_at, is_claim, not_start}
use Rattle.zio_nodes.proofs.OwnStages.{claim_assembled}
use Rattle.zio_nodes.proofs.OwnBare.{begun_bare, does_more, grows_bare, next_bare, refused_bare}
use Rattle.zio_nodes.proofs.ClaimLemmas.{begins_most, begun_claim, rest_then, stage_less, walk_due_past, walk_less}
use Rattle.zio_masks.specs.declared.pipeline.TheConstants.{CLAIM}
use Rattle.zio_types.specs.declared.request.Kind.TheVariants.{Claim as ClaimKind}
use Rattle.zio_nodes.proofs.StageLeads.{gang_leads, gang_of, gang_of_claim, up_to_kept}
use Rattle.zio_nodes.proofs.Refused.{on_err}
use Rattle.zio_nodes.proofs.StageAllows.{grows_so}
use Rattle.zio_nodes.proofs.request_at.RequestAt.claim_gang_assemble.Goals as goal

pub begin_claim-requires : goal.begin_claim-requires
begin_claim-requires c =
    let at = c.args.self.now in
    let r = at.node in
    let work = is_claim r.waiting.request.work c.requires.kind in
    let behind = not_start at.stage GangAssemble c.requires.stage (λ e. cc) in
    let now = claim_stands c.args.tops.now at GangAssemble work c.requires.over c.requires.stage (λ e. cc) in
    record {
      begun = begun_claim at.is_due _ r.own now;
      handed = handed_at c.args.tops.now at c.requires.over behind;
      claim = claim_work r.waiting.request.work work;
    }

pub gang_assemble_claim-requires : goal.gang_assemble_claim-requires
gang_assemble_claim-requires c =
    let over = c.requires.over.over in
    record {
      claims = c.in-Ok.ensures.claims;
      attempt = subst (λ n. n < 4) (sym (ap (λ x. x.attempt) c.begin_claim.ensures.rest)) over.few;
      tops = over.tops_are;
      over = c.begin_claim.ensures.over over.own;
    }

pub new-child-requires : goal.new-child-requires
new-child-requires c = (subst (λ (o : Option HeadsNode). IfSome o IsWholeWalk) c.in-Ok-Some.field-0-is c.in-Ok-Some.ensures.whole).0

pub returns-in_default-clause-refused : goal.returns-in_default-clause-refused
returns-in_default-clause-refused c = refused_bare c.args.tops.now c.args.self.now _ c.args.self.now.stage c.args.self.now.is_due c.in_default.ensures.err refl

pub returns-in-Ok-Some-clause-moves : goal.returns-in-Ok-Some-clause-moves
returns-in-Ok-Some-clause-moves c =
    let at = c.args.self.now in
    let r = at.node in
    let work = is_claim r.waiting.request.work c.requires.kind in
    let behind = not_start at.stage GangAssemble c.requires.stage (λ e. cc) in
    let tops = c.args.tops.now in
    let mid = c.begin_claim.new.self in
    let new = c.gang_assemble_claim.new.self in
    let rest = rest_then r mid new c.begin_claim.ensures.rest c.gang_assemble_claim.ensures.rest in
    let was = claim_stands tops at GangAssemble work c.requires.over c.requires.stage (λ e. cc) in
    let most = begins_most at.is_due _ r mid was c.begin_claim.ensures.still in
    let walk = c.in-Ok-Some.walk in
    grows_bare tops at new at.stage at.is_due (Heads c.new-child.result) Gang (λ t op. IsHeadsNode t walk (fresh_stack op))
    (λ t st same is. does_more t st (IsRequestNode t mid) _ (c.in-Ok.ensures.does t st same is)
    (λ on begun. subst (λ (o : Option HeadsNode). HandsWalk t o (IsRequestNode t new) on) c.in-Ok-Some.field-0-is (c.in-Ok-Some.ensures.hands t on same begun)))
    (λ t op fresh. c.new-child.ensures.fresh t (fresh_stack op) fresh) (λ gang. c.new-child.ensures.told) refl refl
    (claim_gave_same r new work rest)

pub returns-in-Ok-Some-clause-over : goal.returns-in-Ok-Some-clause-over
returns-in-Ok-Some-clause-over c =
    let at = c.args.self.now in
    let r = at.node in
    let work = is_claim r.waiting.request.work c.requires.kind in
    let behind = not_start at.stage GangAssemble c.requires.stage (λ e. cc) in
    let tops = c.args.tops.now in
    let mid = c.begin_claim.new.self in
    let new = c.gang_assemble_claim.new.self in
    let rest = rest_then r mid new c.begin_claim.ensures.rest c.gang_assemble_claim.ensures.rest in
    let was = claim_stands tops at GangAssemble work c.requires.over c.requires.stage (λ e. cc) in
    let most = begins_most at.is_due _ r mid was c.begin_claim.ensures.still in (
      claim_over tops at new at.stage at.is_due work c.requires.over behind rest c.gang_assemble_claim.ensures.over
          (subst (λ (s : Stage). IsClaimAtStage s at.is_due new.own (points_to_gang work.bytes)) (sym c.requires.stage) (inr c.gang_assemble_claim.ensures.claims, was.1)),
      c.new-child.ensures.over tops (subst (λ (o : Option HeadsNode). IsWalkOver tops o) c.in-Ok-Some.field-0-is c.in-Ok-Some.ensures.child_over),
    )

pub returns-in-Ok-Some-clause-left : goal.returns-in-Ok-Some-clause-left
returns-in-Ok-Some-clause-left c =
    let at = c.args.self.now in
    let r = at.node in
    let work = is_claim r.waiting.request.work c.requires.kind in
    let behind = not_start at.stage GangAssemble c.requires.stage (λ e. cc) in
    let tops = c.args.tops.now in
    let mid = c.begin_claim.new.self in
    let new = c.gang_assemble_claim.new.self in
    let rest = rest_then r mid new c.begin_claim.ensures.rest c.gang_assemble_claim.ensures.rest in
    let was = claim_stands tops at GangAssemble work c.requires.over c.requires.stage (λ e. cc) in
    let most = begins_most at.is_due _ r mid was c.begin_claim.ensures.still in
    let whole = subst (λ (o : Option HeadsNode). IfSome o IsWholeWalk) c.in-Ok-Some.field-0-is c.in-Ok-Some.ensures.whole in
    let goes = subst (λ (o : Option HeadsNode). IfSome o (λ w. IsClaimingWith (λ w. IsWalkDue w.block w.step) mid.own × IsClaimingWith (λ w. IsPastDue w.block w.step) new.own)) c.in-Ok-Some.field-0-is c.in-Ok-Some.ensures.goes in
    omega (arith, claim_less at new at.stage at.is_due (walk_max 8 + 1) work behind behind rest (walk_less r.own mid.own new.own at.stage most goes.0 goes.1), c.new-child.ensures.left ∙ ap walk_max whole.1)

pub returns-in-Err-clause-refused : goal.returns-in-Err-clause-refused
returns-in-Err-clause-refused c =
    let at = c.args.self.now in
    let r = at.node in
    let work = is_claim r.waiting.request.work c.requires.kind in
    let behind = not_start at.stage GangAssemble c.requires.stage (λ e. cc) in
    let tops = c.args.tops.now in
    let mid = c.begin_claim.new.self in
    let new = c.gang_assemble_claim.new.self in
    let rest = rest_then r mid new c.begin_claim.ensures.rest c.gang_assemble_claim.ensures.rest in
    let was = claim_stands tops at GangAssemble work c.requires.over c.requires.stage (λ e. cc) in
    let most = begins_most at.is_due _ r mid was c.begin_claim.ensures.still in
    begun_bare tops at new at.stage at.is_due
    (λ t st on is. does_more t st (IsRequestNode t mid) _ (c.in-Ok.ensures.does t st on is) (λ after begun. subst (λ (x : RequestNode). IsRequestNode t x after) (sym c.in-Err.ensures.err) begun)) refl
    (claim_gave_same r new work rest)

pub returns-in-Ok-Some-clause-stages : goal.returns-in-Ok-Some-clause-stages
returns-in-Ok-Some-clause-stages c = let g = grows_so (Request c.args.self.now) GangAssemble Gang c.requires.stage refl (λ e. cc) (λ e. cc) in (refl, g.0, g.1, g.2)

pub returns-in_default-new_room-clause-refused : goal.returns-in_default-new_room-clause-refused
returns-in_default-new_room-clause-refused c =
    let at = c.args.self.now in
    let mid = c.begin_claim.new.self in
    let work = is_claim at.node.waiting.request.work c.requires.kind in
    begun_bare c.args.tops.now at mid at.stage at.is_due (λ t st on is. c.in-Ok.ensures.does t st on is) refl (claim_gave_same at.node mid work c.begin_claim.ensures.rest)

pub returns-then-not-is_walk_due_claim-clause-moves : goal.returns-then-not-is_walk_due_claim-clause-moves
returns-then-not-is_walk_due_claim-clause-moves c =
    let at = c.args.self.now in
    let mid = c.begin_claim.new.self in
    let work = is_claim at.node.waiting.request.work c.requires.kind in
    next_bare c.args.tops.now at mid c.next-self.result at.is_due (λ t st on is. c.in-Ok.ensures.does t st on is)
    (ap is_told (claim_assembled c.with_gang.result c.next-self.result c.with_gang.ensures.stages c.next-self.ensures) ∙ sym (ap is_told c.requires.stage))
    (claim_gave_same at.node mid work c.begin_claim.ensures.rest)

pub returns-then-not-is_walk_due_claim-clause-over : goal.returns-then-not-is_walk_due_claim-clause-over
returns-then-not-is_walk_due_claim-clause-over c =
    let at = c.args.self.now in
    let work = is_claim at.node.waiting.request.work c.requires.kind in
    let behind = not_start at.stage GangAssemble c.requires.stage (λ e. cc) in
    let tops = c.args.tops.now in
    let mid = c.begin_claim.new.self in
    let was = claim_stands tops at GangAssemble work c.requires.over c.requires.stage (λ e. cc) in
    claim_over tops at mid c.next-self.result at.is_due work c.requires.over behind c.begin_claim.ensures.rest (c.begin_claim.ensures.over c.requires.over.over.own)
    (subst (λ (s : Stage). IsClaimAtStage s at.is_due mid.own (points_to_gang work.bytes))
    (sym (claim_assembled c.with_gang.result c.next-self.result c.with_gang.ensures.stages c.next-self.ensures))
    (c.is_walk_due_claim.ensures.none c.if-not-is_walk_due_claim.true c.in-Ok.ensures.claims, was.1))

pub returns-then-not-is_walk_due_claim-clause-left : goal.returns-then-not-is_walk_due_claim-clause-left
returns-then-not-is_walk_due_claim-clause-left c =
    let at = c.args.self.now in
    let r = at.node in
    let work = is_claim r.waiting.request.work c.requires.kind in
    let behind = not_start at.stage GangAssemble c.requires.stage (λ e. cc) in
    let mid = c.begin_claim.new.self in
    let was = claim_stands c.args.tops.now at GangAssemble work c.requires.over c.requires.stage (λ e. cc) in
    let most = begins_most at.is_due _ r mid was c.begin_claim.ensures.still in
    let is = claim_assembled c.with_gang.result c.next-self.result c.with_gang.ensures.stages c.next-self.ensures in
    omega (
      arith,
      claim_less at mid c.next-self.result at.is_due 1 work behind (not_start c.next-self.result GangIssue is (λ e. cc)) c.begin_claim.ensures.rest
          (stage_less r.own mid.own at.stage c.next-self.result (told_cost + told_cost + 3) (told_cost + told_cost + 2)
          most (ap claim_stages c.requires.stage) (ap claim_stages is) (omega arith)),
    )

pub returns-then-not-is_walk_due_claim-clause-stages : goal.returns-then-not-is_walk_due_claim-clause-stages
returns-then-not-is_walk_due_claim-clause-stages c =
    let at = c.args.self.now in
    let r = at.node in
    let work = is_claim r.waiting.request.work c.requires.kind in
    let was = claim_stands c.args.tops.now at GangAssemble work c.requires.over c.requires.stage (λ e. cc) in
    inl (gang_leads at ClaimKind CLAIM c.with_gang.result GangAssemble c.next-self.result c.requires.kind c.requires.stage
    (gang_of_claim r.waiting.request.work r.waiting.block work.name work.bytes work.is ∙ was.1) (λ s. refl) c.with_gang.ensures.stages
    (up_to_kept (gang_of at) c.next-self.result GangIssue (claim_assembled c.with_gang.result c.next-self.result c.with_gang.ensures.stages c.next-self.ensures) refl) c.next-self.ensures)

pub unreachable-requires : goal.unreachable-requires
unreachable-requires c =
    let none = c.in-Ok-None.is ∙ ap (λ (o : Option HeadsNode). Ok o) c.in-Ok-None.field-0-is in
    walk_due_past c.begin_claim.new.self.own (c.is_walk_due_claim.ensures.due c.if-not-is_walk_due_claim.false)
    (subst (λ (x : RequestNode). IsClaimWith (λ w. IsPastDue w.block w.step) x.own) (c.gang_assemble_claim.ensures.still none) (c.gang_assemble_claim.ensures.begun none))
