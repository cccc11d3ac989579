use Rattle.std.proofs.Common.{◌+◌, refl, sym, ap, subst, ◌∙◌, arith}
use Rattle.zio_masks.specs.declared.stage.Stage.{Stage}
use Rattle.zio_masks.specs.declared.stage.Stage.TheVariants.{GangIssue}
use Rattle.zio_types.specs.declared.request.ChildKind.TheVariants.{Gang}
use Rattle.zio_frames.specs.Frames.{fresh_stack}
use Rattle.zio_stages.specs.CopiesNodes.{IsCopiesNode}
use Rattle.zio_stages.specs.RequestKinds.{is_gang_tree}
use Rattle.zio_stages.specs.RequestReads.{IsAlone, IsBodyNext}
use Rattle.zio_stages.proofs.BehindLemmas.{does_nothing}
use Rattle.zio_nodes.specs.Bounds.{copies_max}
use Rattle.zio_nodes.specs.OwnAts.{IsIssuing, IsReadAtStage}
use Rattle.zio_nodes.specs.declared.node.Node.TheVariants.{Copies, Request}
use Rattle.zio_nodes.proofs.OwnBare.{grows_bare, refused_bare}
use Rattle.zio_nodes.proofs.OwnLefts.{read_gave_same, read_less}
use Rattle.zio_nodes.proofs.OwnOver.{is_read, not_start, read_over, read_stands}
use Rattle.zio_nodes.proofs.ReadStages.{any_reading, issues_still, issuing_less, same_less, with_map}
use Rattle.zio_nodes.proofs.Refused.{on_err}
use Rattle.zio_nodes.proofs.StageAllows.{grows_so}
use Rattle.zio_nodes.proofs.request_at.RequestAt.hand_out_body.Goals as goal

pub returns-in_err-room-clause-refused : goal.returns-in_err-room-clause-refused
returns-in_err-room-clause-refused c =
    let at = c.args.self.now in
    on_err c.from_residual.result (refused_bare c.args.tops.now at at.node at.stage at.is_due refl refl)

pub gang_issue_read-requires : goal.gang_issue_read-requires
gang_issue_read-requires c =
    let at = c.args.self.now in
    let r = at.node in
    let work = is_read r.waiting.request.work c.requires.kind in
    let over = c.requires.over in
    let now = read_stands c.args.tops.now at GangIssue work over c.requires.stage (λ e. cc) in
    record { reads = with_map IsIssuing IsAlone r.own (λ w h. h.0) now.1; next = c.requires.next; attempt = over.over.few; over = over.over.own }

pub returns-in-Ok-clause-moves : goal.returns-in-Ok-clause-moves
returns-in-Ok-clause-moves c =
    let at = c.args.self.now in
    let r = at.node in
    let work = is_read r.waiting.request.work c.requires.kind in
    let new = c.gang_issue_read.new.self in
    grows_bare c.args.tops.now at new at.stage at.is_due (Copies c.new-child.result) Gang (λ t op. IsCopiesNode t c.in-Ok.read (fresh_stack op))
    (λ t st same is. does_nothing t st _ (c.in-Ok.ensures.hands t st same is))
    (λ t op fresh. c.new-child.ensures.fresh t op fresh) (λ gang. c.new-child.ensures.told) refl refl
    (read_gave_same r new work c.gang_issue_read.ensures.rest)

pub returns-in-Ok-clause-over : goal.returns-in-Ok-clause-over
returns-in-Ok-clause-over c =
    let at = c.args.self.now in
    let r = at.node in
    let tops = c.args.tops.now in
    let work = is_read r.waiting.request.work c.requires.kind in
    let behind = not_start at.stage GangIssue c.requires.stage (λ e. cc) in
    let new = c.gang_issue_read.new.self in
    let now = read_stands tops at GangIssue work c.requires.over c.requires.stage (λ e. cc) in
    let block = ap (λ x. is_gang_tree x.block) c.gang_issue_read.ensures.waiting in (
      read_over tops at new at.stage at.is_due work c.requires.over behind c.gang_issue_read.ensures.rest c.gang_issue_read.ensures.over
          (subst (λ (s : Stage). IsReadAtStage tops s at.is_due new.own new.waiting.block) (sym c.requires.stage)
          (block ∙ now.0, issues_still r.own new.own now.1 c.gang_issue_read.ensures.reads c.in-Ok.ensures.goes)),
      c.new-child.ensures.over tops c.in-Ok.ensures.child_over,
    )

pub returns-in-Ok-clause-left : goal.returns-in-Ok-clause-left
returns-in-Ok-clause-left c =
    let at = c.args.self.now in
    let r = at.node in
    let work = is_read r.waiting.request.work c.requires.kind in
    let behind = not_start at.stage GangIssue c.requires.stage (λ e. cc) in
    let new = c.gang_issue_read.new.self in
    let now = read_stands c.args.tops.now at GangIssue work c.requires.over c.requires.stage (λ e. cc) in
    let less = issuing_less r.own new.own (any_reading (IsBodyNext c.args.body) r.own c.requires.next) now.1 c.gang_issue_read.ensures.reads c.in-Ok.ensures.goes in
    omega (
      arith,
      read_less at new at.stage at.is_due (copies_max + 1) work behind behind c.gang_issue_read.ensures.rest
          (same_less r.own new.own at.stage at.stage at.is_due (copies_max + 1) less refl),
      c.new-child.ensures.left,
    )

pub returns-in-Err-clause-refused : goal.returns-in-Err-clause-refused
returns-in-Err-clause-refused c = refused_bare c.args.tops.now c.args.self.now c.gang_issue_read.new.self c.args.self.now.stage c.args.self.now.is_due c.in-Err.ensures.err refl

pub returns-in-Ok-clause-stages : goal.returns-in-Ok-clause-stages
returns-in-Ok-clause-stages c = let g = grows_so (Request c.args.self.now) GangIssue Gang c.requires.stage refl (λ e. cc) (λ e. cc) in (refl, g.0, g.1, g.2)
