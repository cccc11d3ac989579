use Rattle.std.proofs.Common.{◌+◌, ◌≤◌, Ok, Option, refl, sym, ap, subst, ◌∙◌, arith, inl}
use Rattle.std.specs.Prelude.{IfSome}
use Rattle.zio_masks.specs.declared.stage.Stage.{Stage}
use Rattle.zio_masks.specs.declared.stage.Stage.TheVariants.{GangAssemble, GangIssue}
use Rattle.zio_types.specs.declared.request.ChildKind.TheVariants.{Gang}
use Rattle.zio_frames.specs.Frames.{fresh_stack}
use Rattle.zio_staged.specs.Stages.{told_cost}
use Rattle.zio_stages.specs.HeadsNodes.{IsHeadsNode}
use Rattle.zio_stages.specs.ReadCounts.{HandsOutWalk, HasWalkBegun}
use Rattle.zio_stages.specs.RequestKinds.{is_gang_tree}
use Rattle.zio_stages.specs.RequestNodes.{IsRequestNode}
use Rattle.zio_stages.specs.RequestReads.{HandsWalk, IsAlone, IsReadWith, IsReadingWith, IsWalkOver, IsWholeWalk, ReadsOn}
use Rattle.zio_stages.specs.declared.heads_node.HeadsNode.{HeadsNode}
use Rattle.zio_stages.specs.declared.request_node.RequestNode.{RequestNode}
use Rattle.zio_stages.proofs.BehindLemmas.{does_nothing}
use Rattle.zio_nodes.specs.Bounds.{walk_max}
use Rattle.zio_nodes.specs.OwnAts.{IsIssuing, IsReadAtStage, IsWalking}
use Rattle.zio_nodes.specs.OwnBounds.{read_stages, reading_left}
use Rattle.zio_nodes.specs.declared.node.Node.TheVariants.{Heads, Request}
use Rattle.zio_nodes.specs.Told.{is_told}
use Rattle.zio_nodes.proofs.OwnBare.{grows_bare, next_same, refused_bare}
use Rattle.zio_nodes.proofs.OwnLefts.{read_gave_same, read_less}
use Rattle.zio_nodes.proofs.OwnOver.{is_read, not_start, read_over, read_stands}
use Rattle.zio_nodes.proofs.OwnStages.{read_assembled}
use Rattle.zio_nodes.proofs.ReadLemmas.{read_both}
use Rattle.zio_nodes.proofs.ReadStages.{any_read, same_less, stage_less, walk_due_begun, walking_less, walks_still, with_map}
use Rattle.zio_masks.specs.declared.pipeline.TheConstants.{READ}
use Rattle.zio_types.specs.declared.request.Kind.TheVariants.{Read as ReadKind}
use Rattle.zio_nodes.proofs.StageLeads.{gang_leads, gang_of, gang_of_read, up_to_kept}
use Rattle.zio_nodes.proofs.Refused.{on_err}
use Rattle.zio_nodes.proofs.StageAllows.{grows_so}
use Rattle.zio_nodes.proofs.request_at.RequestAt.read_gang_assemble.Goals as goal

pub returns-in_err-room-clause-refused : goal.returns-in_err-room-clause-refused
returns-in_err-room-clause-refused c = λ tops.
    let at = c.args.self.now in
    on_err c.from_residual.result (refused_bare tops at at.node at.stage at.is_due refl refl)

pub gang_assemble_read-requires : goal.gang_assemble_read-requires
gang_assemble_read-requires c =
    let at = c.args.self.now in
    let r = at.node in
    let work = is_read r.waiting.request.work c.requires.kind in
    let over = c.requires.over in
    let now = read_stands over.0 at GangAssemble work over.1 c.requires.stage (λ e. cc) in
    record { reads = with_map IsWalking IsAlone r.own (λ w h. h.0) now.1; attempt = over.1.over.few; on = (over.0, over.1.over.waiting) }

pub new-child-requires : goal.new-child-requires
new-child-requires c = (subst (λ (o : Option HeadsNode). IfSome o IsWholeWalk) c.in-Ok-Some.field-0-is c.in-Ok-Some.ensures.whole).0

pub returns-in-Ok-Some-clause-moves : goal.returns-in-Ok-Some-clause-moves
returns-in-Ok-Some-clause-moves c = λ tops.
    let at = c.args.self.now in
    let r = at.node in
    let work = is_read r.waiting.request.work c.requires.kind in
    let behind = not_start at.stage GangAssemble c.requires.stage (λ e. cc) in
    let new = c.gang_assemble_read.new.self in
    let walk = c.in-Ok-Some.walk in
    grows_bare tops at new at.stage at.is_due (Heads c.new-child.result) Gang (λ t op. IsHeadsNode t walk (fresh_stack op))
    (λ t st same is. does_nothing t st _ (subst (λ (o : Option HeadsNode). HandsWalk t o (IsRequestNode t new) st) c.in-Ok-Some.field-0-is (c.in-Ok-Some.ensures.hands t st is)))
    (λ t op fresh. c.new-child.ensures.fresh t (fresh_stack op) fresh) (λ gang. c.new-child.ensures.told) refl refl
    (read_gave_same r new work c.gang_assemble_read.ensures.rest)

pub returns-in-Ok-Some-clause-over : goal.returns-in-Ok-Some-clause-over
returns-in-Ok-Some-clause-over c = λ tops h.
    let at = c.args.self.now in
    let r = at.node in
    let work = is_read r.waiting.request.work c.requires.kind in
    let behind = not_start at.stage GangAssemble c.requires.stage (λ e. cc) in
    let new = c.gang_assemble_read.new.self in
    let goes = subst (λ (o : Option HeadsNode). IfSome o (λ w. ReadsOn HandsOutWalk r.own new.own)) c.in-Ok-Some.field-0-is c.in-Ok-Some.ensures.goes in
    let now = read_stands tops at GangAssemble work h c.requires.stage (λ e. cc) in
    let block = ap (λ x. is_gang_tree x.block) c.gang_assemble_read.ensures.waiting in (
      read_over tops at new at.stage at.is_due work h behind c.gang_assemble_read.ensures.rest (c.gang_assemble_read.ensures.over tops h.over.own)
          (subst (λ (s : Stage). IsReadAtStage tops s at.is_due new.own new.waiting.block) (sym c.requires.stage)
          (block ∙ now.0, walks_still r.own new.own now.1 c.gang_assemble_read.ensures.reads goes)),
      c.new-child.ensures.over tops (subst (λ (o : Option HeadsNode). IsWalkOver tops o) c.in-Ok-Some.field-0-is (c.in-Ok-Some.ensures.child_over tops h.over.waiting)),
    )

pub returns-in-Ok-Some-clause-left : goal.returns-in-Ok-Some-clause-left
returns-in-Ok-Some-clause-left c =
    let at = c.args.self.now in
    let r = at.node in
    let work = is_read r.waiting.request.work c.requires.kind in
    let behind = not_start at.stage GangAssemble c.requires.stage (λ e. cc) in
    let new = c.gang_assemble_read.new.self in
    let goes = subst (λ (o : Option HeadsNode). IfSome o (λ w. ReadsOn HandsOutWalk r.own new.own)) c.in-Ok-Some.field-0-is c.in-Ok-Some.ensures.goes in
    let reading = subst (λ (o : Option HeadsNode). IfSome o (λ w. IsReadingWith (λ w. Unit {0}) r.own)) c.in-Ok-Some.field-0-is c.in-Ok-Some.ensures.reading in
    let whole = subst (λ (o : Option HeadsNode). IfSome o IsWholeWalk) c.in-Ok-Some.field-0-is c.in-Ok-Some.ensures.whole in
    let less = walking_less r.own new.own (λ w. Unit {0}) reading c.gang_assemble_read.ensures.reads goes in
    omega (
      arith,
      read_less at new at.stage at.is_due (walk_max 8 + 1) work behind behind c.gang_assemble_read.ensures.rest
          (same_less r.own new.own at.stage at.stage at.is_due (walk_max 8 + 1) less refl),
      c.new-child.ensures.left ∙ ap walk_max whole.1,
    )

pub returns-in-Err-clause-refused : goal.returns-in-Err-clause-refused
returns-in-Err-clause-refused c = λ tops.
    refused_bare tops c.args.self.now c.gang_assemble_read.new.self c.args.self.now.stage c.args.self.now.is_due c.in-Err.ensures.err refl

pub returns-in-Ok-Some-clause-stages : goal.returns-in-Ok-Some-clause-stages
returns-in-Ok-Some-clause-stages c = let g = grows_so (Request c.args.self.now) GangAssemble Gang c.requires.stage refl (λ e. cc) (λ e. cc) in (refl, g.0, g.1, g.2)

pub returns-then-not-is_walk_due_read-clause-moves : goal.returns-then-not-is_walk_due_read-clause-moves
returns-then-not-is_walk_due_read-clause-moves c = λ tops.
    let at = c.args.self.now in
    let is = read_assembled c.with_gang.result c.next-self.result c.with_gang.ensures.stages c.next-self.ensures in
    next_same tops at at.node c.next-self.result at.is_due refl (ap is_told is ∙ sym (ap is_told c.requires.stage))

pub returns-then-not-is_walk_due_read-clause-over : goal.returns-then-not-is_walk_due_read-clause-over
returns-then-not-is_walk_due_read-clause-over c = λ tops h.
    let at = c.args.self.now in
    let r = at.node in
    let work = is_read r.waiting.request.work c.requires.kind in
    let behind = not_start at.stage GangAssemble c.requires.stage (λ e. cc) in
    let is = read_assembled c.with_gang.result c.next-self.result c.with_gang.ensures.stages c.next-self.ensures in
    let now = read_stands tops at GangAssemble work h c.requires.stage (λ e. cc) in
    let begun = c.is_walk_due_read.ensures.none c.if-not-is_walk_due_read.true now.0 (any_read IsWalking r.own now.1) in
    read_over tops at r c.next-self.result at.is_due work h behind refl h.over.own
    (subst (λ (s : Stage). IsReadAtStage tops s at.is_due r.own r.waiting.block) (sym is)
    (now.0, read_both IsWalking HasWalkBegun IsIssuing r.own (λ w a b. (a.0, a.1, b)) now.1 begun))

pub returns-then-not-is_walk_due_read-clause-left : goal.returns-then-not-is_walk_due_read-clause-left
returns-then-not-is_walk_due_read-clause-left c =
    let at = c.args.self.now in
    let r = at.node in
    let work = is_read r.waiting.request.work c.requires.kind in
    let behind = not_start at.stage GangAssemble c.requires.stage (λ e. cc) in
    let is = read_assembled c.with_gang.result c.next-self.result c.with_gang.ensures.stages c.next-self.ensures in
    let most : reading_left r.own ≤ reading_left r.own = omega arith in
    omega (
      arith,
      read_less at r c.next-self.result at.is_due 1 work behind (not_start c.next-self.result GangIssue is (λ e. cc)) refl
          (stage_less r.own r.own at.stage c.next-self.result at.is_due at.is_due 1 (told_cost + told_cost + 6) (told_cost + told_cost + 5) most
          (ap (λ s. read_stages s at.is_due) c.requires.stage) (ap (λ s. read_stages s at.is_due) is) (omega arith)),
    )

pub returns-then-not-is_walk_due_read-clause-stages : goal.returns-then-not-is_walk_due_read-clause-stages
returns-then-not-is_walk_due_read-clause-stages c =
    let at = c.args.self.now in
    let r = at.node in
    inl (gang_leads at ReadKind READ c.with_gang.result GangAssemble c.next-self.result c.requires.kind c.requires.stage
    (gang_of_read r.waiting.request.work r.waiting.block c.requires.kind
    ∙ (read_stands c.requires.over.0 at GangAssemble (is_read r.waiting.request.work c.requires.kind) c.requires.over.1 c.requires.stage (λ e. cc)).0)
    (λ s. refl) c.with_gang.ensures.stages
    (up_to_kept (gang_of at) c.next-self.result GangIssue (read_assembled c.with_gang.result c.next-self.result c.with_gang.ensures.stages c.next-self.ensures) refl) c.next-self.ensures)

pub unreachable-requires : goal.unreachable-requires
unreachable-requires c =
    let at = c.args.self.now in
    let over = c.requires.over in
    let now = read_stands over.0 at GangAssemble (is_read at.node.waiting.request.work c.requires.kind) over.1 c.requires.stage (λ e. cc) in
    let none = c.in-Ok-None.is ∙ ap (λ (o : Option HeadsNode). Ok o) c.in-Ok-None.field-0-is in
    walk_due_begun at.node.own (c.is_walk_due_read.ensures.due c.if-not-is_walk_due_read.false)
    (subst (λ (x : RequestNode). IsReadWith HasWalkBegun x.own) (c.gang_assemble_read.ensures.none none) (c.gang_assemble_read.ensures.begun none now.0))
