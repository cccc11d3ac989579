use Rattle.std.proofs.Common.{refl, sym, ap, subst, ◌∙◌, arith, inl}
use Rattle.zio_masks.specs.declared.stage.Stage.{Stage}
use Rattle.zio_masks.specs.declared.stage.Stage.TheVariants.{ReadBpInit}
use Rattle.zio_stages.specs.RequestKinds.{has_gang_stages, is_gang_tree}
use Rattle.zio_nodes.specs.OwnAts.{IsReadAtStage}
use Rattle.zio_nodes.specs.Told.{is_told}
use Rattle.zio_nodes.proofs.FirstStages.{has_done}
use Rattle.zio_nodes.proofs.OwnBare.{next_bare, refused_bare}
use Rattle.zio_nodes.proofs.OwnLefts.{read_gave_same, read_less}
use Rattle.zio_nodes.proofs.OwnOver.{handed_at, is_read, not_start, read_over, read_stands, read_work}
use Rattle.zio_nodes.proofs.OwnStages.{behind_init, read_begun}
use Rattle.zio_nodes.proofs.ReadStages.{init_behind, init_less, init_stands, init_untold, read_mask, init_leads}
use Rattle.zio_nodes.proofs.StageLeads.{mask_leads, gang_of_read}
use Rattle.zio_nodes.proofs.request_at.RequestAt.read_bp_init.Goals as goal

pub read_bp_init-requires : goal.read_bp_init-requires
read_bp_init-requires c =
    let at = c.args.self.now in
    let r = at.node in
    let work = is_read r.waiting.request.work c.requires.kind in
    let behind = not_start at.stage ReadBpInit c.requires.stage (λ e. cc) in
    record {
      due = (read_stands c.requires.over.0 at ReadBpInit work c.requires.over.1 c.requires.stage (λ e. cc)).0;
      handed = handed_at c.requires.over.0 at c.requires.over.1 behind;
      read = read_work r.waiting.request.work work;
    }

pub next-self-requires-clause-ends : goal.next-self-requires-clause-ends
next-self-requires-clause-ends c =
    let r = c.args.self.now.node in
    has_done r.waiting.request.work (has_gang_stages r.waiting.request.work r.waiting.block) c.mask-mask.result c.mask-mask.ensures

pub returns-in-Ok-clause-moves : goal.returns-in-Ok-clause-moves
returns-in-Ok-clause-moves c = λ tops.
    let at = c.args.self.now in
    let r = at.node in
    let work = is_read r.waiting.request.work c.requires.kind in
    let new = c.read_bp_init.new.self in
    let gang = is_gang_tree r.waiting.block in
    let is = read_begun gang c.mask-mask.result c.next-self.result
    (read_mask r.waiting.request.work r.waiting.block c.mask-mask.result work c.mask-mask.ensures) c.next-self.ensures in
    next_bare tops at new c.next-self.result at.is_due (λ t st same. c.in-Ok.ensures.does t st)
    (ap is_told is ∙ init_untold gang ∙ sym (ap is_told c.requires.stage))
    (read_gave_same r new work c.read_bp_init.ensures.rest)

pub returns-in-Ok-clause-over : goal.returns-in-Ok-clause-over
returns-in-Ok-clause-over c = λ tops h.
    let at = c.args.self.now in
    let r = at.node in
    let work = is_read r.waiting.request.work c.requires.kind in
    let behind = not_start at.stage ReadBpInit c.requires.stage (λ e. cc) in
    let new = c.read_bp_init.new.self in
    let gang = is_gang_tree r.waiting.block in
    let is = read_begun gang c.mask-mask.result c.next-self.result
    (read_mask r.waiting.request.work r.waiting.block c.mask-mask.result work c.mask-mask.ensures) c.next-self.ensures in
    let block = ap (λ x. is_gang_tree x.block) c.read_bp_init.ensures.waiting in
    read_over tops at new c.next-self.result at.is_due work h behind c.read_bp_init.ensures.rest (c.read_bp_init.ensures.over tops h.over.waiting h.over.own)
    (subst (λ (s : Stage). IsReadAtStage tops s at.is_due new.own new.waiting.block) (sym is)
    (init_stands tops gang at.is_due new.own new.waiting.block block (λ plain. c.in-Ok.ensures.plain (sym block ∙ plain)) (λ yes. c.in-Ok.ensures.gang (sym block ∙ yes))))

pub returns-in-Ok-clause-left : goal.returns-in-Ok-clause-left
returns-in-Ok-clause-left c =
    let at = c.args.self.now in
    let r = at.node in
    let work = is_read r.waiting.request.work c.requires.kind in
    let behind = not_start at.stage ReadBpInit c.requires.stage (λ e. cc) in
    let new = c.read_bp_init.new.self in
    let gang = is_gang_tree r.waiting.block in
    let is = read_begun gang c.mask-mask.result c.next-self.result
    (read_mask r.waiting.request.work r.waiting.block c.mask-mask.result work c.mask-mask.ensures) c.next-self.ensures in
    let due = (read_stands c.requires.over.0 at ReadBpInit work c.requires.over.1 c.requires.stage (λ e. cc)).0 in
    omega (
      arith,
      read_less at new c.next-self.result at.is_due 1 work behind
          (not_start c.next-self.result (behind_init gang) is (init_behind gang)) c.read_bp_init.ensures.rest
          (init_less r.own new.own at.stage c.next-self.result at.is_due gang due c.in-Ok.ensures.reads c.requires.stage is),
    )

pub returns-in-Err-clause-refused : goal.returns-in-Err-clause-refused
returns-in-Err-clause-refused c = λ tops.
    refused_bare tops c.args.self.now c.read_bp_init.new.self c.args.self.now.stage c.args.self.now.is_due c.in-Err.ensures.err refl

pub returns-in-Ok-clause-stages : goal.returns-in-Ok-clause-stages
returns-in-Ok-clause-stages c =
    let at = c.args.self.now in
    let r = at.node in
    let gang = is_gang_tree r.waiting.block in
    let is = read_begun gang c.mask-mask.result c.next-self.result
    (read_mask r.waiting.request.work r.waiting.block c.mask-mask.result (is_read r.waiting.request.work c.requires.kind) c.mask-mask.ensures) c.next-self.ensures in
    inl (mask_leads at c.mask-mask.result ReadBpInit c.next-self.result c.requires.stage c.mask-mask.ensures
    (init_leads at c.next-self.result gang (gang_of_read r.waiting.request.work r.waiting.block c.requires.kind) is) c.next-self.ensures)
