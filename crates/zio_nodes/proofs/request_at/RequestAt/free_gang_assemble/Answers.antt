use Rattle.std.proofs.Common.{◌≡◌, ◌+◌, Ok, Option, refl, sym, ap, subst, ◌∙◌, arith, inl}
use Rattle.std.specs.Prelude.{IfSome}
use Rattle.zio_masks.specs.declared.stage.Stage.{Stage}
use Rattle.zio_masks.specs.declared.stage.Stage.TheVariants.{GangAssemble, GangIssue}
use Rattle.zio_types.specs.declared.request.ChildKind.TheVariants.{Gang}
use Rattle.zio_exchange.specs.declared.waiting.UnfinishedRequest.{UnfinishedRequest}
use Rattle.zio_staged.specs.Stages.{told_cost}
use Rattle.zio_frames.specs.Frames.{fresh_stack}
use Rattle.zio_stages.specs.HeadsNodes.{IsHeadsNode}
use Rattle.zio_stages.specs.RequestFrees.{HasBegun, IsFreeWith, IsFreeingWith}
use Rattle.zio_stages.specs.RequestKinds.{is_gang_tree}
use Rattle.zio_stages.specs.RequestNodes.{IsRequestNode}
use Rattle.zio_stages.specs.RequestReads.{HandsWalk, IsWalkOver, IsWholeWalk}
use Rattle.zio_stages.specs.declared.heads_node.HeadsNode.{HeadsNode}
use Rattle.zio_stages.specs.declared.request_node.RequestNode.{RequestNode}
use Rattle.zio_stages.proofs.BehindLemmas.{does_nothing}
use Rattle.zio_stages.specs.declared.own_free.FreeWalk.TheVariants.{Due, Out}
use Rattle.zio_nodes.specs.Bounds.{walk_max}
use Rattle.zio_nodes.specs.OwnAts.{HasKeptAll, IsFreeAtStage}
use Rattle.zio_nodes.specs.OwnBounds.{free_stages}
use Rattle.zio_nodes.specs.declared.node.Node.TheVariants.{Heads, Request}
use Rattle.zio_nodes.specs.Told.{is_told}
use Rattle.zio_nodes.proofs.OwnLefts.{free_gave_same, free_less, none_freed}
use Rattle.zio_nodes.proofs.OwnOver.{free_over, free_stands, is_free, not_start}
use Rattle.zio_nodes.proofs.OwnStages.{free_assembled}
use Rattle.zio_nodes.proofs.OwnBare.{grows_bare, next_same, refused_bare}
use Rattle.zio_nodes.proofs.FreeLemmas.{free_map, kept_all, may_give, none_given, none_yet, not_found, stage_less_same, walk_due_begun, walk_less}
use Rattle.zio_masks.specs.declared.pipeline.TheConstants.{FREE}
use Rattle.zio_types.specs.declared.request.Kind.TheVariants.{Free as FreeKind}
use Rattle.zio_nodes.proofs.StageLeads.{gang_leads, gang_of, gang_of_free, up_to_kept}
use Rattle.zio_nodes.proofs.Refused.{on_err}
use Rattle.zio_nodes.proofs.StageAllows.{grows_so}
use Rattle.zio_nodes.proofs.request_at.RequestAt.free_gang_assemble.Goals as goal

pub gang_assemble_free-requires : goal.gang_assemble_free-requires
gang_assemble_free-requires c =
    let at = c.args.self.now in
    let r = at.node in
    let work = is_free r.waiting.request.work c.requires.kind in
    let behind = not_start at.stage GangAssemble c.requires.stage (λ e. cc) in
    let over = c.requires.over in
    let now = free_stands over.0 at GangAssemble work over.1 c.requires.stage (λ e. cc) in
    record { frees = may_give r.waiting.block r.own now.0; attempt = over.1.over.few; on = (over.0, over.1.over.waiting) }

pub new-child-requires : goal.new-child-requires
new-child-requires c = (subst (λ (o : Option HeadsNode). IfSome o IsWholeWalk) c.in-Ok-Some.field-0-is c.in-Ok-Some.ensures.whole).0

pub returns-in-Ok-Some-clause-moves : goal.returns-in-Ok-Some-clause-moves
returns-in-Ok-Some-clause-moves c = λ tops.
    let at = c.args.self.now in
    let r = at.node in
    let work = is_free r.waiting.request.work c.requires.kind in
    let behind = not_start at.stage GangAssemble c.requires.stage (λ e. cc) in
    let over = c.requires.over in
    let new = c.gang_assemble_free.new.self in
    let walk = c.in-Ok-Some.walk in
    let now = free_stands over.0 at GangAssemble work over.1 c.requires.stage (λ e. cc) in
    let goes =
    subst (λ (o : Option HeadsNode). IfSome o (λ w. IsFreeingWith (λ w. w.walk ≡ Due) r.own × IsFreeingWith (λ w. w.walk ≡ Out) new.own))
    c.in-Ok-Some.field-0-is c.in-Ok-Some.ensures.goes in
    let was = none_freed r.own r.waiting.block (none_given r.own now.0) (λ f. absurd (not_found (λ w. w.walk ≡ Due) r.own goes.0 f)) in
    let is =
    none_freed new.own r.waiting.block (c.gang_assemble_free.ensures.given ∙ none_given r.own now.0)
    (λ f. absurd (not_found (λ w. w.walk ≡ Out) new.own goes.1 f)) in
    grows_bare tops at new at.stage at.is_due (Heads c.new-child.result) Gang (λ t op. IsHeadsNode t walk (fresh_stack op))
    (λ t st same is. does_nothing t st _
    (subst (λ (o : Option HeadsNode). HandsWalk t o (IsRequestNode t new) st) c.in-Ok-Some.field-0-is (c.in-Ok-Some.ensures.hands t st is)))
    (λ t op fresh. c.new-child.ensures.fresh t (fresh_stack op) fresh) (λ gang. c.new-child.ensures.told) refl refl
    (free_gave_same r new work c.gang_assemble_free.ensures.rest (is ∙ sym was))

pub returns-in-Ok-Some-clause-over : goal.returns-in-Ok-Some-clause-over
returns-in-Ok-Some-clause-over c = λ tops h.
    let at = c.args.self.now in
    let r = at.node in
    let work = is_free r.waiting.request.work c.requires.kind in
    let behind = not_start at.stage GangAssemble c.requires.stage (λ e. cc) in
    let new = c.gang_assemble_free.new.self in
    let now = free_stands tops at GangAssemble work h c.requires.stage (λ e. cc) in
    let block = ap (λ (x : UnfinishedRequest). is_gang_tree x.block) c.gang_assemble_free.ensures.waiting in (
      free_over tops at new at.stage at.is_due work h behind c.gang_assemble_free.ensures.rest (c.gang_assemble_free.ensures.over tops h.over.own)
          (subst (λ (s : Stage). IsFreeAtStage s at.is_due new.own new.waiting.block) (sym c.requires.stage)
          (kept_all _ new.own c.gang_assemble_free.ensures.frees (c.gang_assemble_free.ensures.given ∙ none_given r.own now.0), block ∙ now.1)),
      c.new-child.ensures.over tops
          (subst (λ (o : Option HeadsNode). IsWalkOver tops o) c.in-Ok-Some.field-0-is (c.in-Ok-Some.ensures.child_over tops h.over.waiting)),
    )

pub returns-in-Ok-Some-clause-left : goal.returns-in-Ok-Some-clause-left
returns-in-Ok-Some-clause-left c =
    let at = c.args.self.now in
    let r = at.node in
    let work = is_free r.waiting.request.work c.requires.kind in
    let behind = not_start at.stage GangAssemble c.requires.stage (λ e. cc) in
    let new = c.gang_assemble_free.new.self in
    let whole = subst (λ (o : Option HeadsNode). IfSome o IsWholeWalk) c.in-Ok-Some.field-0-is c.in-Ok-Some.ensures.whole in
    let goes =
    subst (λ (o : Option HeadsNode). IfSome o (λ w. IsFreeingWith (λ w. w.walk ≡ Due) r.own × IsFreeingWith (λ w. w.walk ≡ Out) new.own))
    c.in-Ok-Some.field-0-is c.in-Ok-Some.ensures.goes in
    let less = walk_less r.own new.own at.stage goes.0 goes.1 in
    omega (
      arith,
      free_less at new at.stage at.is_due (walk_max 8 + 1) work behind behind c.gang_assemble_free.ensures.rest less,
      c.new-child.ensures.left ∙ ap walk_max whole.1,
    )

pub returns-in-Err-clause-refused : goal.returns-in-Err-clause-refused
returns-in-Err-clause-refused c = λ tops.
    let at = c.args.self.now in
    refused_bare tops at c.gang_assemble_free.new.self at.stage at.is_due c.in-Err.ensures.err refl

pub returns-in_err-room-clause-refused : goal.returns-in_err-room-clause-refused
returns-in_err-room-clause-refused c = λ tops.
    let at = c.args.self.now in
    on_err c.from_residual.result (refused_bare tops at at.node at.stage at.is_due refl refl)

pub returns-in-Ok-Some-clause-stages : goal.returns-in-Ok-Some-clause-stages
returns-in-Ok-Some-clause-stages c = let g = grows_so (Request c.args.self.now) GangAssemble Gang c.requires.stage refl (λ e. cc) (λ e. cc) in (refl, g.0, g.1, g.2)

pub returns-then-not-is_walk_due_free-clause-moves : goal.returns-then-not-is_walk_due_free-clause-moves
returns-then-not-is_walk_due_free-clause-moves c = λ tops.
    let at = c.args.self.now in
    next_same tops at at.node c.next-self.result at.is_due refl
    (ap is_told (free_assembled c.with_gang.result c.next-self.result c.with_gang.ensures.stages c.next-self.ensures) ∙ sym (ap is_told c.requires.stage))

pub returns-then-not-is_walk_due_free-clause-over : goal.returns-then-not-is_walk_due_free-clause-over
returns-then-not-is_walk_due_free-clause-over c = λ tops h.
    let at = c.args.self.now in
    let r = at.node in
    let work = is_free r.waiting.request.work c.requires.kind in
    let behind = not_start at.stage GangAssemble c.requires.stage (λ e. cc) in
    let now = free_stands tops at GangAssemble work h c.requires.stage (λ e. cc) in
    free_over tops at r c.next-self.result at.is_due work h behind refl h.over.own
    (subst (λ (s : Stage). IsFreeAtStage s at.is_due r.own r.waiting.block)
    (sym (free_assembled c.with_gang.result c.next-self.result c.with_gang.ensures.stages c.next-self.ensures)) (
      none_yet r.waiting.block r.own now.0,
      c.is_walk_due_free.ensures.none c.if-not-is_walk_due_free.true now.1 (free_map HasKeptAll (λ w. Unit {0}) r.own (λ w kept. tt) now.0),
      now.1,
    ))

pub returns-then-not-is_walk_due_free-clause-left : goal.returns-then-not-is_walk_due_free-clause-left
returns-then-not-is_walk_due_free-clause-left c =
    let at = c.args.self.now in
    let r = at.node in
    let work = is_free r.waiting.request.work c.requires.kind in
    let behind = not_start at.stage GangAssemble c.requires.stage (λ e. cc) in
    let is = free_assembled c.with_gang.result c.next-self.result c.with_gang.ensures.stages c.next-self.ensures in
    let less =
    stage_less_same r.own r.own at.stage c.next-self.result (told_cost + told_cost + 3) (told_cost + told_cost + 2) refl
    (ap free_stages c.requires.stage) (ap free_stages is) (omega arith) in
    omega (arith, free_less at r c.next-self.result at.is_due 1 work behind (not_start c.next-self.result GangIssue is (λ e. cc)) refl less)

pub returns-then-not-is_walk_due_free-clause-stages : goal.returns-then-not-is_walk_due_free-clause-stages
returns-then-not-is_walk_due_free-clause-stages c =
    let at = c.args.self.now in
    let r = at.node in
    let work = is_free r.waiting.request.work c.requires.kind in
    let now = free_stands c.requires.over.0 at GangAssemble work c.requires.over.1 c.requires.stage (λ e. cc) in
    inl (gang_leads at FreeKind FREE c.with_gang.result GangAssemble c.next-self.result c.requires.kind c.requires.stage
    (gang_of_free r.waiting.request.work r.waiting.block c.requires.kind ∙ now.1) (λ s. refl) c.with_gang.ensures.stages
    (up_to_kept (gang_of at) c.next-self.result GangIssue (free_assembled c.with_gang.result c.next-self.result c.with_gang.ensures.stages c.next-self.ensures) refl) c.next-self.ensures)

pub unreachable-requires : goal.unreachable-requires
unreachable-requires c =
    let at = c.args.self.now in
    let over = c.requires.over in
    let now = free_stands over.0 at GangAssemble (is_free at.node.waiting.request.work c.requires.kind) over.1 c.requires.stage (λ e. cc) in
    let none = c.in-Ok-None.is ∙ ap (λ (o : Option HeadsNode). Ok o) c.in-Ok-None.field-0-is in
    walk_due_begun at.node.own (c.is_walk_due_free.ensures.due c.if-not-is_walk_due_free.false)
    (subst (λ (x : RequestNode). IsFreeWith (λ w. HasBegun w.walk) x.own) (c.gang_assemble_free.ensures.still none) (c.gang_assemble_free.ensures.begun none now.1))
