use Rattle.std.proofs.Common.{◌+◌, [], None, Ok, Option, Some, false, inl, refl, sym, ap, subst, ◌∙◌, arith, lit≤}
use Rattle.std.specs.Prelude.{IfSome}
use Rattle.zio_masks.specs.declared.stage.Stage.{Stage}
use Rattle.zio_masks.specs.declared.stage.Stage.TheVariants.{VdevIoDone, VdevIoStart}
use Rattle.zio_staged.specs.Stages.{told_cost}
use Rattle.zio_stages.specs.NodeIos.{StartsBy}
use Rattle.zio_stages.specs.OwnParts.{DoesThen}
use Rattle.zio_stages.specs.ReadCounts.{HasHandedAll, IsNoneDue, StartsBody}
use Rattle.zio_stages.specs.RequestNodes.{IsRequestNode}
use Rattle.zio_stages.specs.RequestReads.{IsReadingWith, ReadsOn}
use Rattle.zio_stages.specs.declared.leaf.LeafWork.{LeafWork}
use Rattle.zio_nodes.specs.Bounds.{leaf_share}
use Rattle.zio_nodes.specs.OwnAts.{IsReadAtStage, MayReadOne}
use Rattle.zio_nodes.specs.OwnBounds.{read_stages}
use Rattle.zio_nodes.specs.Told.{is_told}
use Rattle.zio_nodes.proofs.OwnBare.{begun_bare, next_bare, refused_bare}
use Rattle.zio_nodes.proofs.OwnLefts.{read_gave_same, read_less}
use Rattle.zio_nodes.proofs.OwnOver.{is_read, not_start, read_over, read_stands}
use Rattle.zio_nodes.proofs.ReadIos.{few_after, none_one, read_starts, still_reading}
use Rattle.zio_nodes.proofs.ReadLemmas.{HasFewAsked, read_map, reading_less, start_less, started_all}
use Rattle.zio_nodes.proofs.ReadStages.{both_after, read_started, reading_and, reading_most, same_less, stage_less, any_read}
use Rattle.zio_nodes.proofs.StageLeads.{gang_of, gang_of_read, plain_kept, read_leads}
use Rattle.zio_nodes.proofs.Refused.{on_err}
use Rattle.zio_types.specs.declared.request.ChildKind.TheVariants.{Vdev}
use Rattle.zio_nodes.specs.declared.node.Node.TheVariants.{Request}
use Rattle.zio_nodes.proofs.StageAllows.{grows_so}
use Rattle.zio_stages.specs.RequestKinds.{is_gang_tree}
use Rattle.zio_nodes.proofs.PassLemmas.{any_stage, read_in_pass}
use Rattle.zio_nodes.proofs.request_at.RequestAt.read_io_start.Goals as goal

pub returns-in-Ok-Some-clause-moves : goal.returns-in-Ok-Some-clause-moves
returns-in-Ok-Some-clause-moves c = λ t st on.
    let at = c.args.self.now in
    let r = at.node in
    let tops = c.args.tops.now in
    let work = is_read r.waiting.request.work c.requires.kind in
    let behind = not_start at.stage VdevIoStart c.requires.stage (λ e. cc) in
    let new = c.vdev_io_start_read.new.self in
    let rest = c.vdev_io_start_read.ensures.rest in
    let now = read_stands tops at VdevIoStart work c.requires.over c.requires.stage (λ e. cc) in
    let leaf = c.in-Ok-Some.work in
    let goes = subst (λ (o : Option LeafWork). ReadsOn (StartsBody o) r.own new.own) c.in-Ok-Some.field-0-is c.in-Ok-Some.ensures.goes in
    let reading = subst (λ (o : Option LeafWork). IfSome o (λ w. IsReadingWith (λ w. Unit {0}) r.own)) c.in-Ok-Some.field-0-is c.in-Ok-Some.ensures.reading in
    read_starts t st at _ leaf c.new-child.result
    (subst (λ (o : Option LeafWork). DoesThen t st [] (λ mid. StartsBy t mid o (IsRequestNode t new))) c.in-Ok-Some.field-0-is (c.in-Ok-Some.ensures.starts t st on.tops_are on.is))
    (λ act is. c.new-child.ensures.fresh t act is) (still_reading (StartsBody (Some leaf)) r.own new.own reading goes) refl (read_gave_same r new work rest)

pub returns-in-Ok-Some-clause-over : goal.returns-in-Ok-Some-clause-over
returns-in-Ok-Some-clause-over c =
    let at = c.args.self.now in
    let r = at.node in
    let tops = c.args.tops.now in
    let work = is_read r.waiting.request.work c.requires.kind in
    let behind = not_start at.stage VdevIoStart c.requires.stage (λ e. cc) in
    let new = c.vdev_io_start_read.new.self in
    let rest = c.vdev_io_start_read.ensures.rest in
    let now = read_stands tops at VdevIoStart work c.requires.over c.requires.stage (λ e. cc) in
    let leaf = c.in-Ok-Some.work in
    let goes = subst (λ (o : Option LeafWork). ReadsOn (StartsBody o) r.own new.own) c.in-Ok-Some.field-0-is c.in-Ok-Some.ensures.goes in
    let reading = subst (λ (o : Option LeafWork). IfSome o (λ w. IsReadingWith (λ w. Unit {0}) r.own)) c.in-Ok-Some.field-0-is c.in-Ok-Some.ensures.reading in (
      read_over tops at new at.stage at.is_due work c.requires.over behind rest c.vdev_io_start_read.ensures.over
          (subst (λ (s : Stage). IsReadAtStage tops s at.is_due new.own new.waiting.block) (sym c.requires.stage) (
            read_map MayReadOne MayReadOne (StartsBody (Some leaf)) r.own new.own
                (λ v w may s. inl (started_all tops (Some leaf) v w may s (λ e. absurd (cc)))) now.0 goes,
            now.1,
            ap (λ x. is_gang_tree x.block) c.vdev_io_start_read.ensures.waiting ∙ now.2,
          )),
      c.new-child.ensures.stands,
    )

pub returns-in-Ok-Some-clause-left : goal.returns-in-Ok-Some-clause-left
returns-in-Ok-Some-clause-left c =
    let at = c.args.self.now in
    let r = at.node in
    let tops = c.args.tops.now in
    let work = is_read r.waiting.request.work c.requires.kind in
    let behind = not_start at.stage VdevIoStart c.requires.stage (λ e. cc) in
    let new = c.vdev_io_start_read.new.self in
    let rest = c.vdev_io_start_read.ensures.rest in
    let now = read_stands tops at VdevIoStart work c.requires.over c.requires.stage (λ e. cc) in
    let leaf = c.in-Ok-Some.work in
    let goes = subst (λ (o : Option LeafWork). ReadsOn (StartsBody o) r.own new.own) c.in-Ok-Some.field-0-is c.in-Ok-Some.ensures.goes in
    let reading = subst (λ (o : Option LeafWork). IfSome o (λ w. IsReadingWith (λ w. Unit {0}) r.own)) c.in-Ok-Some.field-0-is c.in-Ok-Some.ensures.reading in
    let few = few_after (StartsBody (Some leaf)) tops r.own new.own new.family goes c.vdev_io_start_read.ensures.over in
    let less = reading_less (λ v w. StartsBody (Some leaf) v w × HasFewAsked w.body) MayReadOne leaf_share r.own new.own (λ v w may s. start_less (Some leaf) v w may s.1 s.0)
    (reading_and MayReadOne r.own reading now.0) few in
    omega (
      arith,
      read_less at new at.stage at.is_due leaf_share work behind behind rest
          (same_less r.own new.own at.stage at.stage at.is_due leaf_share less refl),
      c.new-child.ensures.left,
    )

pub returns-in-Ok-None-clause-moves : goal.returns-in-Ok-None-clause-moves
returns-in-Ok-None-clause-moves c =
    let at = c.args.self.now in
    let r = at.node in
    let tops = c.args.tops.now in
    let work = is_read r.waiting.request.work c.requires.kind in
    let behind = not_start at.stage VdevIoStart c.requires.stage (λ e. cc) in
    let new = c.vdev_io_start_read.new.self in
    let rest = c.vdev_io_start_read.ensures.rest in
    let now = read_stands tops at VdevIoStart work c.requires.over c.requires.stage (λ e. cc) in
    let goes = subst (λ (o : Option LeafWork). ReadsOn (StartsBody o) r.own new.own) c.in-Ok-None.field-0-is c.in-Ok-None.ensures.goes in
    let is = read_started c.next-self.result c.next-self.ensures in
    next_bare tops at new c.next-self.result false
    (λ t st same was. subst (λ (o : Option LeafWork). DoesThen t st [] (λ mid. StartsBy t mid o (IsRequestNode t new))) c.in-Ok-None.field-0-is (c.in-Ok-None.ensures.starts t st same was))
    (ap is_told is ∙ sym (ap is_told c.requires.stage)) (read_gave_same r new work rest)

pub returns-in-Ok-None-clause-over : goal.returns-in-Ok-None-clause-over
returns-in-Ok-None-clause-over c =
    let at = c.args.self.now in
    let r = at.node in
    let tops = c.args.tops.now in
    let work = is_read r.waiting.request.work c.requires.kind in
    let behind = not_start at.stage VdevIoStart c.requires.stage (λ e. cc) in
    let new = c.vdev_io_start_read.new.self in
    let rest = c.vdev_io_start_read.ensures.rest in
    let now = read_stands tops at VdevIoStart work c.requires.over c.requires.stage (λ e. cc) in
    let goes = subst (λ (o : Option LeafWork). ReadsOn (StartsBody o) r.own new.own) c.in-Ok-None.field-0-is c.in-Ok-None.ensures.goes in
    let is = read_started c.next-self.result c.next-self.ensures in
    let due = c.vdev_io_start_read.ensures.none (c.in-Ok-None.is ∙ ap (λ (o : Option LeafWork). Ok o) c.in-Ok-None.field-0-is) (any_read MayReadOne r.own now.0) in
    read_over tops at new c.next-self.result false work c.requires.over behind rest c.vdev_io_start_read.ensures.over
    (subst (λ (s : Stage). IsReadAtStage tops s false new.own new.waiting.block) (sym is) (
      read_map MayReadOne HasHandedAll (λ v w. StartsBody None v w × IsNoneDue tops w) r.own new.own (λ v w may s. started_all tops None v w may s.0 (λ e. s.1)) now.0
          (both_after (StartsBody None) (IsNoneDue tops) r.own new.own due goes),
      λ e. none_one tops new.own due,
      ap (λ x. is_gang_tree x.block) c.vdev_io_start_read.ensures.waiting ∙ now.2,
    ))

pub returns-in-Ok-None-clause-left : goal.returns-in-Ok-None-clause-left
returns-in-Ok-None-clause-left c =
    let at = c.args.self.now in
    let r = at.node in
    let tops = c.args.tops.now in
    let work = is_read r.waiting.request.work c.requires.kind in
    let behind = not_start at.stage VdevIoStart c.requires.stage (λ e. cc) in
    let new = c.vdev_io_start_read.new.self in
    let rest = c.vdev_io_start_read.ensures.rest in
    let now = read_stands tops at VdevIoStart work c.requires.over c.requires.stage (λ e. cc) in
    let goes = subst (λ (o : Option LeafWork). ReadsOn (StartsBody o) r.own new.own) c.in-Ok-None.field-0-is c.in-Ok-None.ensures.goes in
    let is = read_started c.next-self.result c.next-self.ensures in
    let few = few_after (StartsBody None) tops r.own new.own new.family goes c.vdev_io_start_read.ensures.over in
    let most = reading_most (λ v w. StartsBody None v w × HasFewAsked w.body) MayReadOne r.own new.own (λ v w may s. start_less None v w may s.1 s.0) now.0 few in
    omega (
      arith,
      read_less at new c.next-self.result false 1 work behind (not_start c.next-self.result VdevIoDone is (λ e. cc)) rest
          (stage_less r.own new.own at.stage c.next-self.result at.is_due false 1 (told_cost + 4) (told_cost + 3) most
          (λ i. read_stages (c.requires.stage i) (now.1 i)) (ap (λ s. read_stages s false) is) (omega arith)),
    )

pub returns-in-Err-clause-refused : goal.returns-in-Err-clause-refused
returns-in-Err-clause-refused c =
    let at = c.args.self.now in
    let r = at.node in
    let tops = c.args.tops.now in
    let work = is_read r.waiting.request.work c.requires.kind in
    let behind = not_start at.stage VdevIoStart c.requires.stage (λ e. cc) in
    let new = c.vdev_io_start_read.new.self in
    let rest = c.vdev_io_start_read.ensures.rest in
    let now = read_stands tops at VdevIoStart work c.requires.over c.requires.stage (λ e. cc) in
    begun_bare tops at new at.stage at.is_due (λ t st same was. c.in-Err.ensures.err t st same was) refl (read_gave_same r new work rest)

pub returns-in-Ok-None-clause-stages : goal.returns-in-Ok-None-clause-stages
returns-in-Ok-None-clause-stages c =
    let at = c.args.self.now in
    let r = at.node in
    let now = read_stands c.args.tops.now at VdevIoStart (is_read r.waiting.request.work c.requires.kind) c.requires.over c.requires.stage (λ e. cc) in
    inl (read_leads at VdevIoStart c.next-self.result c.requires.kind c.requires.stage (lit≤ tt)
    (plain_kept (gang_of at) c.next-self.result (gang_of_read r.waiting.request.work r.waiting.block c.requires.kind ∙ now.2)) c.next-self.ensures)

pub returns-in-Ok-Some-clause-stages : goal.returns-in-Ok-Some-clause-stages
returns-in-Ok-Some-clause-stages c = let g = grows_so (Request c.args.self.now) VdevIoStart Vdev c.requires.stage refl (λ e. cc) (λ e. cc) in (refl, g.0, g.1, g.2)

pub returns-in-Ok-None-clause-pass : goal.returns-in-Ok-None-clause-pass
returns-in-Ok-None-clause-pass c = any_stage _ _ _ (read_in_pass None c.args.self.now.node.own c.vdev_io_start_read.new.self.own
    (subst (λ (leaf : Option LeafWork). ReadsOn (StartsBody leaf) c.args.self.now.node.own c.vdev_io_start_read.new.self.own) c.in-Ok-None.field-0-is c.in-Ok-None.ensures.goes))

pub returns-in-Ok-Some-clause-pass : goal.returns-in-Ok-Some-clause-pass
returns-in-Ok-Some-clause-pass c = any_stage _ _ _ (read_in_pass (Some c.in-Ok-Some.work) c.args.self.now.node.own c.vdev_io_start_read.new.self.own
    (subst (λ (leaf : Option LeafWork). ReadsOn (StartsBody leaf) c.args.self.now.node.own c.vdev_io_start_read.new.self.own) c.in-Ok-Some.field-0-is c.in-Ok-Some.ensures.goes))
