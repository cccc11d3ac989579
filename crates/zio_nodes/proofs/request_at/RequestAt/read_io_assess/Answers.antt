use Rattle.std.proofs.Common.{◌+◌, Bool, true, false, inl, refl, sym, ap, subst, ◌∙◌, arith, inr}
use Rattle.zio_masks.specs.declared.stage.Stage.{Stage}
use Rattle.zio_masks.specs.declared.stage.Stage.TheVariants.{VdevIoAssess, VdevIoStart}
use Rattle.zio_staged.specs.Stages.{told_cost}
use Rattle.zio_stages.specs.ReadCounts.{AssessesBody, HasHandedAll}
use Rattle.zio_stages.specs.RequestReads.{ReadsOn}
use Rattle.zio_nodes.specs.OwnAts.{HasReadAll, IsReadAtStage, MayReadOne}
use Rattle.zio_nodes.specs.OwnBounds.{read_stages}
use Rattle.zio_nodes.specs.Told.{is_told}
use Rattle.zio_nodes.proofs.OwnBare.{next_bare}
use Rattle.zio_nodes.proofs.OwnLefts.{read_gave_same, read_less}
use Rattle.zio_nodes.proofs.OwnOver.{is_read, not_start, read_over, read_stands}
use Rattle.zio_nodes.proofs.ReadLemmas.{closes_less, counts_all, read_map, reading_less, second_less, tree_all}
use Rattle.zio_nodes.proofs.ReadStages.{again_less_by, reading_most, stage_less}
use Rattle.zio_nodes.proofs.StageCuts.{assessed_behind, assessed_is, assessed_stages, assessed_stands, assessed_to, assessed_told, cut_by, verify_leads}
use Rattle.zio_nodes.proofs.StageLeads.{gang_of_read}
use Rattle.zio_nodes.proofs.StageAllows.{goes_again, read_again}
use Rattle.zio_nodes.specs.declared.node.Node.TheVariants.{Request}
use Rattle.zio_stages.specs.RequestKinds.{is_gang_tree}
use Rattle.zio_nodes.proofs.request_at.RequestAt.read_io_assess.Goals as goal

pub vdev_io_assess_read-requires : goal.vdev_io_assess_read-requires
vdev_io_assess_read-requires c =
    let at = c.args.self.now in
    let work = is_read at.node.waiting.request.work c.requires.kind in
    let now = read_stands c.args.tops.now at VdevIoAssess work c.requires.over c.requires.stage (λ e. cc) in
    record { due = now.1; over = c.requires.over.over.own }

pub returns-then-vdev_io_assess_read-clause-moves : goal.returns-then-vdev_io_assess_read-clause-moves
returns-then-vdev_io_assess_read-clause-moves c =
    let at = c.args.self.now in
    let r = at.node in
    let tops = c.args.tops.now in
    let work = is_read r.waiting.request.work c.requires.kind in
    let behind = not_start at.stage VdevIoAssess c.requires.stage (λ e. cc) in
    let new = c.vdev_io_assess_read.new.self in
    let rest = c.vdev_io_assess_read.ensures.rest in
    let now = read_stands tops at VdevIoAssess work c.requires.over c.requires.stage (λ e. cc) in
    next_bare tops at new VdevIoStart true (λ t st same is. c.vdev_io_assess_read.ensures.does t st same is) (sym (ap is_told c.requires.stage)) (read_gave_same r new work rest)

pub returns-then-vdev_io_assess_read-clause-over : goal.returns-then-vdev_io_assess_read-clause-over
returns-then-vdev_io_assess_read-clause-over c =
    let at = c.args.self.now in
    let r = at.node in
    let tops = c.args.tops.now in
    let work = is_read r.waiting.request.work c.requires.kind in
    let behind = not_start at.stage VdevIoAssess c.requires.stage (λ e. cc) in
    let new = c.vdev_io_assess_read.new.self in
    let rest = c.vdev_io_assess_read.ensures.rest in
    let now = read_stands tops at VdevIoAssess work c.requires.over c.requires.stage (λ e. cc) in
    let goes = subst (λ (b : Bool). ReadsOn (AssessesBody b) r.own new.own) c.if-vdev_io_assess_read.true c.vdev_io_assess_read.ensures.goes in
    read_over tops at new VdevIoStart true work c.requires.over behind rest c.vdev_io_assess_read.ensures.over
    (read_map HasHandedAll MayReadOne (AssessesBody true) r.own new.own (λ v w all b. inl (tree_all v w all b.tree)) now.0 goes, refl, ap (λ x. is_gang_tree x.block) c.vdev_io_assess_read.ensures.waiting ∙ now.2)

pub returns-then-vdev_io_assess_read-clause-left : goal.returns-then-vdev_io_assess_read-clause-left
returns-then-vdev_io_assess_read-clause-left c =
    let at = c.args.self.now in
    let r = at.node in
    let tops = c.args.tops.now in
    let work = is_read r.waiting.request.work c.requires.kind in
    let behind = not_start at.stage VdevIoAssess c.requires.stage (λ e. cc) in
    let new = c.vdev_io_assess_read.new.self in
    let rest = c.vdev_io_assess_read.ensures.rest in
    let now = read_stands tops at VdevIoAssess work c.requires.over c.requires.stage (λ e. cc) in
    let goes = subst (λ (b : Bool). ReadsOn (AssessesBody b) r.own new.own) c.if-vdev_io_assess_read.true c.vdev_io_assess_read.ensures.goes in
    let less = reading_less (AssessesBody true) (λ w. Unit {0}) 3 r.own new.own (λ v w p b. second_less v w b) (c.vdev_io_assess_read.ensures.reading c.if-vdev_io_assess_read.true) goes in
    omega (arith, read_less at new VdevIoStart true 1 work behind (λ e. cc) rest (again_less_by r.own new.own at.stage VdevIoStart at.is_due less c.requires.stage refl))

pub returns-clause-moves : goal.returns-clause-moves
returns-clause-moves c =
    let at = c.args.self.now in
    let r = at.node in
    let tops = c.args.tops.now in
    let work = is_read r.waiting.request.work c.requires.kind in
    let behind = not_start at.stage VdevIoAssess c.requires.stage (λ e. cc) in
    let new = c.vdev_io_assess_read.new.self in
    let rest = c.vdev_io_assess_read.ensures.rest in
    let now = read_stands tops at VdevIoAssess work c.requires.over c.requires.stage (λ e. cc) in
    let failed = c.has_read_failed-has_failed.result in
    let is = assessed_is failed c.behind_assess-self.result c.behind_assess-self.ensures.cut c.behind_assess-self.ensures.on in
    next_bare tops at new c.behind_assess-self.result false (λ t st same is. c.vdev_io_assess_read.ensures.does t st same is)
    (ap is_told is ∙ assessed_told failed ∙ sym (ap is_told c.requires.stage)) (read_gave_same r new work rest)

pub returns-clause-over : goal.returns-clause-over
returns-clause-over c =
    let at = c.args.self.now in
    let r = at.node in
    let tops = c.args.tops.now in
    let work = is_read r.waiting.request.work c.requires.kind in
    let behind = not_start at.stage VdevIoAssess c.requires.stage (λ e. cc) in
    let new = c.vdev_io_assess_read.new.self in
    let rest = c.vdev_io_assess_read.ensures.rest in
    let now = read_stands tops at VdevIoAssess work c.requires.over c.requires.stage (λ e. cc) in
    let goes = subst (λ (b : Bool). ReadsOn (AssessesBody b) r.own new.own) c.if-vdev_io_assess_read.false c.vdev_io_assess_read.ensures.goes in
    let failed = c.has_read_failed-has_failed.result in
    let is = assessed_is failed c.behind_assess-self.result c.behind_assess-self.ensures.cut c.behind_assess-self.ensures.on in
    read_over tops at new c.behind_assess-self.result false work c.requires.over behind rest c.vdev_io_assess_read.ensures.over
    (subst (λ (s : Stage). IsReadAtStage tops s false new.own new.waiting.block) (sym is) (assessed_stands tops failed new.own new.waiting.block
    (read_map HasHandedAll HasReadAll (AssessesBody false) r.own new.own (λ v w all b. (counts_all v w all b.counts, b.alone)) now.0 goes)))

pub returns-clause-left : goal.returns-clause-left
returns-clause-left c =
    let at = c.args.self.now in
    let r = at.node in
    let tops = c.args.tops.now in
    let work = is_read r.waiting.request.work c.requires.kind in
    let behind = not_start at.stage VdevIoAssess c.requires.stage (λ e. cc) in
    let new = c.vdev_io_assess_read.new.self in
    let rest = c.vdev_io_assess_read.ensures.rest in
    let now = read_stands tops at VdevIoAssess work c.requires.over c.requires.stage (λ e. cc) in
    let goes = subst (λ (b : Bool). ReadsOn (AssessesBody b) r.own new.own) c.if-vdev_io_assess_read.false c.vdev_io_assess_read.ensures.goes in
    let failed = c.has_read_failed-has_failed.result in
    let is = assessed_is failed c.behind_assess-self.result c.behind_assess-self.ensures.cut c.behind_assess-self.ensures.on in
    let most = reading_most (AssessesBody false) HasHandedAll r.own new.own (λ v w p b. closes_less v w b) now.0 goes in
    omega (
      arith,
      read_less at new c.behind_assess-self.result false 1 work behind (not_start c.behind_assess-self.result (assessed_to failed) is (assessed_behind failed)) rest
          (stage_less r.own new.own at.stage c.behind_assess-self.result at.is_due false 1 (told_cost + 2) (read_stages (assessed_to failed) false) most
          (ap (λ s. read_stages s at.is_due) c.requires.stage) (ap (λ s. read_stages s false) is) (omega (arith, assessed_stages failed))),
    )

pub returns-then-vdev_io_assess_read-clause-stages : goal.returns-then-vdev_io_assess_read-clause-stages
returns-then-vdev_io_assess_read-clause-stages c =
    let at = c.args.self.now in
    let new = c.vdev_io_assess_read.new.self in
    let goes = subst (λ (b : Bool). ReadsOn (AssessesBody b) at.node.own new.own) c.if-vdev_io_assess_read.true c.vdev_io_assess_read.ensures.goes in
    let again = read_again at.node.own new.own (c.vdev_io_assess_read.ensures.reading c.if-vdev_io_assess_read.true) goes in
    inr (inl (goes_again (Request at) _ c.requires.stage again.0 again.1, refl))

pub returns-clause-stages : goal.returns-clause-stages
returns-clause-stages c =
    let at = c.args.self.now in
    let r = at.node in
    let now = read_stands c.args.tops.now at VdevIoAssess (is_read r.waiting.request.work c.requires.kind) c.requires.over c.requires.stage (λ e. cc) in
    let failed = c.has_read_failed-has_failed.result in
    let is = assessed_is failed c.behind_assess-self.result c.behind_assess-self.ensures.cut c.behind_assess-self.ensures.on in
    let plain = gang_of_read r.waiting.request.work r.waiting.block c.requires.kind ∙ now.2 in
    cut_by (Request at) _ failed c.requires.stage (sym c.has_read_failed-has_failed.ensures) is
    (λ on. verify_leads at c.behind_assess-self.result c.requires.kind c.requires.stage plain (is ∙ ap assessed_to on))
