use Rattle.std.proofs.Common.{◌+◌, true, false, inl, refl, sym, ap, subst, ◌∙◌, arith, inr, lit≤}
use Rattle.zio_masks.specs.declared.stage.Stage.{Stage}
use Rattle.zio_masks.specs.declared.stage.Stage.TheVariants.{VdevIoAssess, VdevIoDone, VdevIoStart}
use Rattle.zio_types.specs.declared.request.ChildKind.TheVariants.{Vdev}
use Rattle.zio_types.specs.declared.request.Phase.TheVariants.{Done}
use Rattle.zio_staged.specs.Stages.{told_cost}
use Rattle.zio_stages.specs.ReadCounts.{HasHandedAll}
use Rattle.zio_nodes.specs.Bounds.{due_left}
use Rattle.zio_nodes.specs.OwnAts.{IsReadAtStage, MayReadOne}
use Rattle.zio_nodes.specs.OwnBounds.{read_stages}
use Rattle.zio_nodes.specs.Told.{is_told}
use Rattle.zio_nodes.proofs.OwnBare.{still_bare, waits_bare}
use Rattle.zio_nodes.proofs.OwnLefts.{read_less}
use Rattle.zio_nodes.proofs.OwnOver.{is_read, not_start, read_over, read_stands}
use Rattle.zio_nodes.proofs.ReadStages.{due_again, read_issued_all, stage_less, with_map}
use Rattle.zio_nodes.proofs.StageLeads.{gang_of, gang_of_read, plain_kept, read_leads}
use Rattle.zio_nodes.proofs.StageAllows.{goes_back, stalls_so}
use Rattle.zio_nodes.specs.declared.node.Node.{Node}
use Rattle.zio_nodes.specs.declared.node.Node.TheVariants.{Request}
use Rattle.zio_nodes.proofs.PassLemmas.{any_stage}
use Rattle.zio_nodes.proofs.request_at.RequestAt.read_io_done.Goals as goal

pub vdev_io_done_read-requires : goal.vdev_io_done_read-requires
vdev_io_done_read-requires c =
    let at = c.args.self.now in
    let work = is_read at.node.waiting.request.work c.requires.kind in
    let now = read_stands c.args.tops.now at VdevIoDone work c.requires.over c.requires.stage (λ e. cc) in
    record { reads = with_map HasHandedAll (λ w. Unit {0}) at.node.own (λ w h. tt) now.0; over = c.requires.over.over.own }

pub returns-in-Wait-clause-moves : goal.returns-in-Wait-clause-moves
returns-in-Wait-clause-moves c = waits_bare c.args.tops.now c.args.self.now Vdev Done (λ t st on seated is. c.vdev_io_done_read.ensures.waits c.in-Wait.is t st on seated is)

pub returns-in-More-clause-moves : goal.returns-in-More-clause-moves
returns-in-More-clause-moves c = still_bare c.args.tops.now c.args.self.now VdevIoStart true (sym (ap is_told c.requires.stage))

pub returns-in-More-clause-over : goal.returns-in-More-clause-over
returns-in-More-clause-over c =
    let at = c.args.self.now in
    let r = at.node in
    let tops = c.args.tops.now in
    let work = is_read r.waiting.request.work c.requires.kind in
    let behind = not_start at.stage VdevIoDone c.requires.stage (λ e. cc) in
    let now = read_stands tops at VdevIoDone work c.requires.over c.requires.stage (λ e. cc) in
    read_over tops at r VdevIoStart true work c.requires.over behind refl c.requires.over.over.own (with_map HasHandedAll MayReadOne r.own (λ w h. inl h) now.0, refl, now.2)

pub returns-in-More-clause-left : goal.returns-in-More-clause-left
returns-in-More-clause-left c =
    let at = c.args.self.now in
    let r = at.node in
    let tops = c.args.tops.now in
    let work = is_read r.waiting.request.work c.requires.kind in
    let behind = not_start at.stage VdevIoDone c.requires.stage (λ e. cc) in
    let now = read_stands tops at VdevIoDone work c.requires.over c.requires.stage (λ e. cc) in
    let due = due_again at.is_due (λ e. now.1 e (c.vdev_io_done_read.ensures.more c.in-More.is)) in
    omega (
      arith,
      read_less at r VdevIoStart true 1 work behind (λ e. cc) refl
          (stage_less r.own r.own at.stage VdevIoStart at.is_due true 1 (told_cost + 5) (told_cost + 4) (omega arith)
          ((λ i. read_stages (c.requires.stage i) (due i))) refl (omega arith)),
    )

pub returns-in-On-clause-moves : goal.returns-in-On-clause-moves
returns-in-On-clause-moves c =
    still_bare c.args.tops.now c.args.self.now c.next-self.result false
    (ap is_told (read_issued_all c.next-self.result c.next-self.ensures) ∙ sym (ap is_told c.requires.stage))

pub returns-in-On-clause-over : goal.returns-in-On-clause-over
returns-in-On-clause-over c =
    let at = c.args.self.now in
    let r = at.node in
    let tops = c.args.tops.now in
    let work = is_read r.waiting.request.work c.requires.kind in
    let behind = not_start at.stage VdevIoDone c.requires.stage (λ e. cc) in
    let now = read_stands tops at VdevIoDone work c.requires.over c.requires.stage (λ e. cc) in
    read_over tops at r c.next-self.result false work c.requires.over behind refl c.requires.over.over.own
    (subst (λ (s : Stage). IsReadAtStage tops s false r.own r.waiting.block) (sym (read_issued_all c.next-self.result c.next-self.ensures))
    (now.0, c.vdev_io_done_read.ensures.due c.in-On.is, now.2))

pub returns-in-On-clause-left : goal.returns-in-On-clause-left
returns-in-On-clause-left c =
    let at = c.args.self.now in
    let r = at.node in
    let work = is_read r.waiting.request.work c.requires.kind in
    let behind = not_start at.stage VdevIoDone c.requires.stage (λ e. cc) in
    let is = read_issued_all c.next-self.result c.next-self.ensures in
    omega (
      arith,
      read_less at r c.next-self.result false 1 work behind (not_start c.next-self.result VdevIoAssess is (λ e. cc)) refl
          (stage_less r.own r.own at.stage c.next-self.result at.is_due false 1 (told_cost + 3 + due_left at.is_due) (told_cost + 2) (omega arith)
          (ap (λ s. read_stages s at.is_due) c.requires.stage) (ap (λ s. read_stages s false) is) (omega arith)),
    )

pub returns-in-More-clause-stages : goal.returns-in-More-clause-stages
returns-in-More-clause-stages c =
    let at = c.args.self.now in
    let after : Node = Request (record { node = at.node; stage = VdevIoStart; is_due = true }) in
    inr (inl (goes_back c.args.tops.now (Request at) after c.requires.stage (inl (c.vdev_io_done_read.ensures.more c.in-More.is)), refl))

pub returns-in-On-clause-stages : goal.returns-in-On-clause-stages
returns-in-On-clause-stages c =
    let at = c.args.self.now in
    let r = at.node in
    let now = read_stands c.args.tops.now at VdevIoDone (is_read r.waiting.request.work c.requires.kind) c.requires.over c.requires.stage (λ e. cc) in
    inl (read_leads at VdevIoDone c.next-self.result c.requires.kind c.requires.stage (lit≤ tt)
    (plain_kept (gang_of at) c.next-self.result (gang_of_read r.waiting.request.work r.waiting.block c.requires.kind ∙ now.2)) c.next-self.ensures)

pub returns-in-Wait-clause-stages : goal.returns-in-Wait-clause-stages
returns-in-Wait-clause-stages c =
    (refl, stalls_so c.args.self.now.stage VdevIoDone Vdev Done c.requires.stage refl)

pub returns-in-Wait-clause-pass : goal.returns-in-Wait-clause-pass
returns-in-Wait-clause-pass c = any_stage _ _ _ refl

pub returns-in-More-clause-pass : goal.returns-in-More-clause-pass
returns-in-More-clause-pass c = any_stage _ _ _ refl

pub returns-in-On-clause-pass : goal.returns-in-On-clause-pass
returns-in-On-clause-pass c = any_stage _ _ _ refl
