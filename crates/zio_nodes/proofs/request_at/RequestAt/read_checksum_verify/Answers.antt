use Rattle.std.proofs.Common.{◌+◌, refl, sym, ap, subst, ◌∙◌, arith, inl, lit≤}
use Rattle.zio_masks.specs.declared.stage.Stage.{Stage}
use Rattle.zio_masks.specs.declared.stage.Stage.TheVariants.{ChecksumVerify, Done}
use Rattle.zio_staged.specs.Stages.{told_cost}
use Rattle.zio_nodes.specs.OwnAts.{IsReadAtStage}
use Rattle.zio_nodes.specs.OwnBounds.{read_stages}
use Rattle.zio_nodes.specs.Told.{is_told}
use Rattle.zio_nodes.proofs.OwnBare.{still_bare}
use Rattle.zio_nodes.proofs.OwnLefts.{read_less}
use Rattle.zio_nodes.proofs.OwnOver.{is_read, not_start, read_over, read_stands}
use Rattle.zio_nodes.proofs.ReadStages.{read_verified, stage_less}
use Rattle.zio_nodes.proofs.StageLeads.{gang_of, last_kept, read_leads}
use Rattle.zio_nodes.proofs.request_at.RequestAt.read_checksum_verify.Goals as goal

pub returns-clause-moves : goal.returns-clause-moves
returns-clause-moves c = λ tops.
    still_bare tops c.args.self.now c.next-self.result c.args.self.now.is_due
    (ap is_told (read_verified c.next-self.result c.next-self.ensures) ∙ sym (ap is_told c.requires.stage))

pub returns-clause-over : goal.returns-clause-over
returns-clause-over c = λ tops h.
    let at = c.args.self.now in
    let r = at.node in
    let work = is_read r.waiting.request.work c.requires.kind in
    let behind = not_start at.stage ChecksumVerify c.requires.stage (λ e. cc) in
    let now = read_stands tops at ChecksumVerify work h c.requires.stage (λ e. cc) in
    read_over tops at r c.next-self.result at.is_due work h behind refl h.over.own
    (subst (λ (s : Stage). IsReadAtStage tops s at.is_due r.own r.waiting.block) (sym (read_verified c.next-self.result c.next-self.ensures)) now)

pub returns-clause-left : goal.returns-clause-left
returns-clause-left c =
    let at = c.args.self.now in
    let r = at.node in
    let work = is_read r.waiting.request.work c.requires.kind in
    let behind = not_start at.stage ChecksumVerify c.requires.stage (λ e. cc) in
    let is = read_verified c.next-self.result c.next-self.ensures in
    omega (
      arith,
      read_less at r c.next-self.result at.is_due 1 work behind (not_start c.next-self.result Done is (λ e. cc)) refl
          (stage_less r.own r.own at.stage c.next-self.result at.is_due at.is_due 1 (told_cost + 1) told_cost (omega arith)
          (ap (λ s. read_stages s at.is_due) c.requires.stage) (ap (λ s. read_stages s at.is_due) is) (omega arith)),
    )

pub returns-clause-stages : goal.returns-clause-stages
returns-clause-stages c =
    let at = c.args.self.now in
    inl (read_leads at ChecksumVerify c.next-self.result c.requires.kind c.requires.stage (lit≤ tt)
    (last_kept (gang_of at) c.next-self.result Done (read_verified c.next-self.result c.next-self.ensures) refl) c.next-self.ensures)
