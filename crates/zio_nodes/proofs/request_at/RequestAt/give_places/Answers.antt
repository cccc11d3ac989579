use Rattle.std.proofs.Common.{refl, sym, ap, subst, ◌∙◌, arith, inl}
use Rattle.zio_masks.specs.declared.stage.Stage.{Stage}
use Rattle.zio_masks.specs.declared.stage.Stage.TheVariants.{Ready}
use Rattle.zio_nodes.specs.OwnAts.{IsFreeAtStage}
use Rattle.zio_nodes.specs.Told.{is_told}
use Rattle.zio_nodes.proofs.OwnLefts.{free_gave_more, free_less}
use Rattle.zio_nodes.proofs.OwnOver.{free_over, is_free, not_start}
use Rattle.zio_nodes.proofs.OwnBare.{gives_back, gives_back_refused}
use Rattle.zio_nodes.proofs.FreeLemmas.{behind_at, given_less, gives_at, gives_more, still_walked, untold_at}
use Rattle.zio_nodes.proofs.request_at.RequestAt.give_places.Goals as goal

pub dva_free-requires : goal.dva_free-requires
dva_free-requires g c =
    let tops = g.S.Services.tops c.args.services.now in
    record { walked = c.requires.walked; frees = c.requires.frees; on = (tops, c.requires.over.over.waiting) }

pub returns-in-Ok-clause-moves : goal.returns-in-Ok-clause-moves
returns-in-Ok-clause-moves g c =
    let at = c.args.self.now in
    let r = at.node in
    let work = is_free r.waiting.request.work c.requires.kind in
    let new = c.dva_free.new.self in
    let gives = c.dva_free.ensures.gives in
    gives_back g.S.Services.made (g.S.Services.tops c.args.services.now) c.args.services.now c.dva_free.new.services at new c.args.to at.is_due
    gives.gone gives.calls (gives_at at gives.gone c.requires.kind c.requires.stage) (λ t st is. c.dva_free.ensures.same t st is)
    (ap is_told c.requires.to ∙ sym (untold_at at.stage c.requires.stage))
    (free_gave_more r new work c.dva_free.ensures.rest gives.gone (gives_more r.own new.own r.waiting.block gives.gone c.dva_free.ensures.goes gives.are))

pub returns-in-Ok-clause-over : goal.returns-in-Ok-clause-over
returns-in-Ok-clause-over g c =
    let at = c.args.self.now in
    let work = is_free at.node.waiting.request.work c.requires.kind in
    let new = c.dva_free.new.self in
    let tops = g.S.Services.tops c.args.services.now in
    free_over tops at new c.args.to at.is_due work c.requires.over (behind_at at.stage c.requires.stage) c.dva_free.ensures.rest
    (c.dva_free.ensures.over tops c.requires.over.over.own)
    (subst (λ (s : Stage). IsFreeAtStage s at.is_due new.own new.waiting.block) (sym c.requires.to)
    (c.in-Ok.ensures.freed, c.dva_free.ensures.failed c.requires.failed))

pub returns-in-Ok-clause-left : goal.returns-in-Ok-clause-left
returns-in-Ok-clause-left g c =
    let at = c.args.self.now in
    let r = at.node in
    let work = is_free r.waiting.request.work c.requires.kind in
    let new = c.dva_free.new.self in
    let less = given_less r.own new.own at.stage c.args.to c.requires.stage c.requires.to (still_walked r.own new.own c.dva_free.ensures.goes c.requires.walked) in
    omega (
      arith,
      free_less at new c.args.to at.is_due 1 work (behind_at at.stage c.requires.stage) (not_start c.args.to Ready c.requires.to (λ e. cc)) c.dva_free.ensures.rest less,
    )

pub returns-in-Err-clause-refused : goal.returns-in-Err-clause-refused
returns-in-Err-clause-refused g c =
    let at = c.args.self.now in
    let r = at.node in
    let work = is_free r.waiting.request.work c.requires.kind in
    let new = c.dva_free.new.self in
    let gives = c.dva_free.ensures.gives in
    gives_back_refused g.S.Services.made (g.S.Services.tops c.args.services.now) c.args.services.now c.dva_free.new.services at new at.stage at.is_due
    gives.gone gives.calls (gives_at at gives.gone c.requires.kind c.requires.stage) (λ t st is. c.dva_free.ensures.same t st is) refl
    (free_gave_more r new work c.dva_free.ensures.rest gives.gone (gives_more r.own new.own r.waiting.block gives.gone c.dva_free.ensures.goes gives.are))

pub returns-in-Ok-clause-stages : goal.returns-in-Ok-clause-stages
returns-in-Ok-clause-stages g c = inl c.requires.leads
