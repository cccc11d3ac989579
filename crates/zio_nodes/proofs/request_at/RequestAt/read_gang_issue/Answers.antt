use Rattle.std.proofs.Common.{◌+◌, ◌≤◌, inl, refl, sym, ap, subst, ◌∙◌, arith, lit≤}
use Rattle.std.specs.List.{list_any}
use Rattle.zio_masks.specs.declared.stage.Stage.{Stage}
use Rattle.zio_masks.specs.declared.stage.Stage.TheVariants.{GangIssue, Ready}
use Rattle.zio_types.specs.declared.request.ChildKind.TheVariants.{Gang}
use Rattle.zio_types.specs.declared.request.Phase.TheVariants.{Done}
use Rattle.zio_staged.specs.Stages.{told_cost}
use Rattle.zio_stages.specs.NodeChildren.{is_awaited}
use Rattle.zio_stages.specs.ReadCounts.{HasHandedAll, HasWalkBegun}
use Rattle.zio_stages.specs.RequestReads.{IsAlone}
use Rattle.zio_nodes.specs.OwnAts.{HasReadAll, IsIssuing, IsReadAtStage, MayReadOne}
use Rattle.zio_nodes.specs.OwnBounds.{read_stages, reading_left}
use Rattle.zio_nodes.specs.Told.{is_told}
use Rattle.zio_nodes.proofs.OwnBare.{next_same, waits_bare}
use Rattle.zio_nodes.proofs.OwnLefts.{read_less}
use Rattle.zio_nodes.proofs.OwnOver.{is_read, not_start, read_over, read_stands}
use Rattle.zio_nodes.proofs.OwnStages.{gang_issued}
use Rattle.zio_nodes.proofs.ReadLemmas.{read_both}
use Rattle.zio_nodes.proofs.ReadStages.{stage_less, with_map}
use Rattle.zio_nodes.proofs.StageAllows.{stalls_so}
use Rattle.zio_nodes.proofs.StageLeads.{cut_leads, gang_of_read}
use Rattle.zio_nodes.proofs.request_at.RequestAt.read_gang_issue.Goals as goal

pub next_body-requires : goal.next_body-requires
next_body-requires c =
    let at = c.args.self.now in
    let work = is_read at.node.waiting.request.work c.requires.kind in
    let now = read_stands c.args.tops.now at GangIssue work c.requires.over c.requires.stage (λ e. cc) in
    with_map IsIssuing IsAlone at.node.own (λ w h. h.0) now.1

pub hand_out_body-requires-clause-next : goal.hand_out_body-requires-clause-next
hand_out_body-requires-clause-next c = c.in-Body.ensures.body c.in-Body.body refl

pub returns-in-Wait-clause-moves : goal.returns-in-Wait-clause-moves
returns-in-Wait-clause-moves c =
    waits_bare c.args.tops.now c.args.self.now Gang Done (λ t st on seated was. c.in-Wait.ensures.waits refl t st seated was)

pub returns-in-Wait-clause-stages : goal.returns-in-Wait-clause-stages
returns-in-Wait-clause-stages c =
    (refl, stalls_so c.args.self.now.stage GangIssue Gang Done c.requires.stage refl)

pub returns-in_default-clause-moves : goal.returns-in_default-clause-moves
returns-in_default-clause-moves c =
    let at = c.args.self.now in
    let is = gang_issued c.next-self.result c.next-self.ensures in
    next_same c.args.tops.now at at.node c.next-self.result at.is_due refl (ap is_told is ∙ sym (ap is_told c.requires.stage))

pub returns-in_default-clause-over : goal.returns-in_default-clause-over
returns-in_default-clause-over c =
    let at = c.args.self.now in
    let r = at.node in
    let tops = c.args.tops.now in
    let work = is_read r.waiting.request.work c.requires.kind in
    let behind = not_start at.stage GangIssue c.requires.stage (λ e. cc) in
    let now = read_stands tops at GangIssue work c.requires.over c.requires.stage (λ e. cc) in
    let is = gang_issued c.next-self.result c.next-self.ensures in
    let all = read_both IsIssuing (λ w. HasWalkBegun w → HasHandedAll w) HasReadAll r.own (λ w a b. (b a.2, a.0)) now.1 (c.in-On.ensures.ended refl now.0) in
    read_over tops at r c.next-self.result at.is_due work c.requires.over behind refl c.requires.over.over.own
    (subst (λ (s : Stage). IsReadAtStage tops s at.is_due r.own r.waiting.block) (sym is)
    (with_map HasReadAll MayReadOne r.own (λ w h. inl h.0) all, λ gang. all))

pub returns-in_default-clause-left : goal.returns-in_default-clause-left
returns-in_default-clause-left c =
    let at = c.args.self.now in
    let r = at.node in
    let work = is_read r.waiting.request.work c.requires.kind in
    let behind = not_start at.stage GangIssue c.requires.stage (λ e. cc) in
    let is = gang_issued c.next-self.result c.next-self.ensures in
    let most : reading_left r.own ≤ reading_left r.own = omega arith in
    omega (
      arith,
      read_less at r c.next-self.result at.is_due 1 work behind (not_start c.next-self.result Ready is (λ e. cc)) refl
          (stage_less r.own r.own at.stage c.next-self.result at.is_due at.is_due 1 (told_cost + told_cost + 5) (told_cost + told_cost + 4) most
          (ap (λ s. read_stages s at.is_due) c.requires.stage) (ap (λ s. read_stages s at.is_due) is) (omega arith)),
    )

pub returns-in_default-clause-stages : goal.returns-in_default-clause-stages
returns-in_default-clause-stages c =
    let at = c.args.self.now in
    let r = at.node in
    let now = read_stands c.args.tops.now at GangIssue (is_read r.waiting.request.work c.requires.kind) c.requires.over c.requires.stage (λ e. cc) in
    inl (cut_leads at GangIssue c.next-self.result c.requires.stage (gang_of_read r.waiting.request.work r.waiting.block c.requires.kind ∙ now.0) (lit≤ tt) c.next-self.ensures)

pub returns-in-Some-clause-moves : goal.returns-in-Some-clause-moves
returns-in-Some-clause-moves c =
    let at = c.args.self.now in
    let kind = c.in-Some.kind in
    let phase = c.in-Some.phase in
    let owed = ap (list_any (is_awaited kind phase)) (sym c.family.ensures) ∙ (c.gang_stall.ensures.some kind phase c.in-Some.is).1 in
    waits_bare c.args.tops.now at kind phase (λ t st on seated was. ap (list_any (is_awaited kind phase)) (sym was.family) ∙ owed)
