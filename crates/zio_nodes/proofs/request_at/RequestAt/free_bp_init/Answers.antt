use Rattle.std.proofs.Common.{refl, sym, ap, subst, ◌∙◌, arith, inl}
use Rattle.zio_masks.specs.declared.stage.Stage.{Stage}
use Rattle.zio_masks.specs.declared.stage.Stage.TheVariants.{FreeBpInit, IssueAsync}
use Rattle.zio_types.specs.declared.error.Errno.TheVariants.{Noent}
use Rattle.zio_stages.specs.RequestFrees.{freed_by}
use Rattle.zio_stages.specs.RequestKinds.{is_gang_tree}
use Rattle.zio_nodes.specs.OwnAts.{IsFreeAtStage}
use Rattle.zio_nodes.specs.Told.{is_told}
use Rattle.zio_nodes.proofs.OwnLefts.{free_gave_same, free_less, none_freed}
use Rattle.zio_nodes.proofs.OwnOver.{free_over, free_stands, free_work, handed_at, is_free, not_start}
use Rattle.zio_nodes.proofs.OwnStages.{free_begun}
use Rattle.zio_nodes.proofs.OwnBare.{next_bare, refused_bare}
use Rattle.zio_nodes.proofs.FreeLemmas.{begins_less, kept_all}
use Rattle.zio_nodes.proofs.StageLeads.{queued_leads}
use Rattle.zio_nodes.proofs.request_at.RequestAt.free_bp_init.Goals as goal

pub free_bp_init-requires : goal.free_bp_init-requires
free_bp_init-requires c =
    let at = c.args.self.now in
    let r = at.node in
    let work = is_free r.waiting.request.work c.requires.kind in
    let behind = not_start at.stage FreeBpInit c.requires.stage (λ e. cc) in
    record {
      due = (free_stands c.requires.over.0 at FreeBpInit work c.requires.over.1 c.requires.stage (λ e. cc)).0;
      handed = handed_at c.requires.over.0 at c.requires.over.1 behind;
      free = free_work r.waiting.request.work work;
    }

pub returns-in-Ok-clause-moves : goal.returns-in-Ok-clause-moves
returns-in-Ok-clause-moves c = λ tops.
    let at = c.args.self.now in
    let r = at.node in
    let work = is_free r.waiting.request.work c.requires.kind in
    let behind = not_start at.stage FreeBpInit c.requires.stage (λ e. cc) in
    let new = c.free_bp_init.new.self in
    let due = (free_stands c.requires.over.0 at FreeBpInit work c.requires.over.1 c.requires.stage (λ e. cc)).0 in
    let none = none_freed new.own r.waiting.block c.in-Ok.ensures.none (λ f. (Noent, c.in-Ok.ensures.missing f)) in
    let was = none_freed r.own r.waiting.block (ap freed_by due) (λ f. absurd (let no = sym due ∙ f.1 in cc)) in
    next_bare tops at new c.next-self.result at.is_due (λ t st same. c.in-Ok.ensures.does t st)
    (ap is_told (free_begun c.next-self.result c.next-self.ensures) ∙ sym (ap is_told c.requires.stage))
    (free_gave_same r new work c.free_bp_init.ensures.rest (none ∙ sym was))

pub returns-in-Ok-clause-over : goal.returns-in-Ok-clause-over
returns-in-Ok-clause-over c = λ tops h.
    let at = c.args.self.now in
    let r = at.node in
    let work = is_free r.waiting.request.work c.requires.kind in
    let behind = not_start at.stage FreeBpInit c.requires.stage (λ e. cc) in
    let new = c.free_bp_init.new.self in
    let block = ap (λ (w : _). is_gang_tree w.block) c.free_bp_init.ensures.waiting in
    free_over tops at new c.next-self.result at.is_due work h behind c.free_bp_init.ensures.rest (c.free_bp_init.ensures.over tops h.over.own)
    (subst (λ (s : Stage). IsFreeAtStage s at.is_due new.own new.waiting.block) (sym (free_begun c.next-self.result c.next-self.ensures))
    (kept_all _ new.own c.in-Ok.ensures.frees c.in-Ok.ensures.none, λ plain. c.in-Ok.ensures.plain (sym block ∙ plain)))

pub returns-in-Ok-clause-left : goal.returns-in-Ok-clause-left
returns-in-Ok-clause-left c =
    let at = c.args.self.now in
    let r = at.node in
    let work = is_free r.waiting.request.work c.requires.kind in
    let behind = not_start at.stage FreeBpInit c.requires.stage (λ e. cc) in
    let new = c.free_bp_init.new.self in
    let due = (free_stands c.requires.over.0 at FreeBpInit work c.requires.over.1 c.requires.stage (λ e. cc)).0 in
    let is = free_begun c.next-self.result c.next-self.ensures in
    omega (
      arith,
      free_less at new c.next-self.result at.is_due 1 work behind (not_start c.next-self.result IssueAsync is (λ e. cc)) c.free_bp_init.ensures.rest
          (begins_less r.own new.own at.stage c.next-self.result due is c.requires.stage),
    )

pub returns-in-Err-clause-refused : goal.returns-in-Err-clause-refused
returns-in-Err-clause-refused c = λ tops.
    let at = c.args.self.now in
    refused_bare tops at c.free_bp_init.new.self at.stage at.is_due c.in-Err.ensures.err refl

pub returns-in-Ok-clause-stages : goal.returns-in-Ok-clause-stages
returns-in-Ok-clause-stages c =
    inl (queued_leads c.args.self.now c.next-self.result c.requires.kind c.requires.stage (free_begun c.next-self.result c.next-self.ensures))
