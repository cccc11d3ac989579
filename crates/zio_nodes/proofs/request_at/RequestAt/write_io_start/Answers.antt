use Rattle.std.proofs.Common.{◌≡◌, ◌+◌, ◌≤◌, [], None, Ok, Option, ap, false, length, refl, subst, sym, ◌∙◌, inl}
use Rattle.zio_masks.specs.declared.stage.Stage.TheVariants.{VdevIoDone, VdevIoStart}
use Rattle.zio_script.specs.Requests.{kind_of}
use Rattle.zio_stages.specs.KidTrees.{KidsHeld}
use Rattle.zio_stages.specs.NodeIos.{StartsBy, with_one}
use Rattle.zio_stages.specs.OwnParts.{DoesThen}
use Rattle.zio_stages.specs.RequestCounts.{asked_of}
use Rattle.zio_stages.specs.RequestNodes.{IsRequestNode}
use Rattle.zio_stages.specs.declared.leaf.LeafWork.{LeafWork}
use Rattle.zio_stages.specs.declared.request_node.RequestNode.{RequestNode}
use Rattle.zio_nodes.specs.Bounds.{leaf_left}
use Rattle.zio_nodes.specs.Told.{is_told}
use Rattle.zio_nodes.proofs.KidMarks.{over_own}
use Rattle.zio_nodes.proofs.RequestMoves.{no_room, request_does}
use Rattle.zio_nodes.proofs.StageLemmas.{write_out}
use Rattle.zio_nodes.proofs.WriteLemmas.{all_out, asks_few, none_gave, stands_in, stands_to, written_unstored}
use Rattle.zio_nodes.proofs.WriteMoves.{io_grows, io_stays, write_starts}
use Rattle.zio_nodes.proofs.StageLeads.{write_leads}
use Rattle.zio_types.specs.declared.request.ChildKind.TheVariants.{Vdev}
use Rattle.zio_nodes.specs.declared.node.Node.TheVariants.{Request}
use Rattle.zio_nodes.proofs.StageAllows.{grows_so}
use Rattle.zio_nodes.proofs.PassLemmas.{any_stage, write_in_pass}
use Rattle.zio_nodes.proofs.request_at.RequestAt.write_io_start.Goals as goal

pub vdev_io_start_write-requires-clause-ready : goal.vdev_io_start_write-requires-clause-ready
vdev_io_start_write-requires-clause-ready c =
    let at = c.args.self.now in
    (stands_in c.args.tops.now at.stage VdevIoStart at.is_due at.node c.requires.kind c.requires.stage tt c.requires.over.stands).0

pub returns-in-Ok-Some-clause-moves : goal.returns-in-Ok-Some-clause-moves
returns-in-Ok-Some-clause-moves c = λ t st now.
    let at = c.args.self.now in
    let new = c.vdev_io_start_write.new.self in
    let kind = ap (λ (r : RequestNode). kind_of r.waiting.request.work) c.vdev_io_start_write.ensures.rest ∙ c.requires.kind in
    let ready = (stands_in c.args.tops.now at.stage VdevIoStart at.is_due at.node c.requires.kind c.requires.stage tt c.requires.over.stands).0 in
    let gave = none_gave new kind (written_unstored _ new.own c.vdev_io_start_write.ensures.ready) ∙ sym (none_gave at.node c.requires.kind (written_unstored _ at.node.own ready)) in
    write_starts t st at _ c.in-Ok-Some.work c.new-child.result
    (subst (λ (o : Option LeafWork). DoesThen t st [] (λ mid. StartsBy t mid o (IsRequestNode t new))) c.in-Ok-Some.field-0-is (c.in-Ok-Some.ensures.starts t st now.tops_are now.is))
    (λ act is. c.new-child.ensures.fresh t act is) c.vdev_io_start_write.ensures.ready refl gave

pub returns-in-Ok-Some-clause-over : goal.returns-in-Ok-Some-clause-over
returns-in-Ok-Some-clause-over c =
    let at = c.args.self.now in
    let tops = c.args.tops.now in
    let new = c.vdev_io_start_write.new.self in
    let rest = c.vdev_io_start_write.ensures.rest in
    let kind = ap (λ (r : RequestNode). kind_of r.waiting.request.work) rest ∙ c.requires.kind in
    let out = all_out tops at.stage VdevIoStart at.is_due at.node c.requires.stage tt c.requires.over.stands in
    let due = (stands_in tops at.stage VdevIoStart at.is_due at.node c.requires.kind c.requires.stage tt c.requires.over.stands).1 in (
      record {
        over = over_own tops at.node new new.family rest c.requires.over.over c.vdev_io_start_write.ensures.over;
        stands = stands_to tops at.stage VdevIoStart at.is_due new kind c.requires.stage tt
            (subst (λ (k : KidsHeld). k.kids.handed ≡ length k.kids.kids) (sym (ap (λ (r : RequestNode). r.kids) rest)) out) (c.vdev_io_start_write.ensures.ready, due);
      },
      c.new-child.ensures.stands,
    )

pub returns-in-Ok-Some-clause-left : goal.returns-in-Ok-Some-clause-left
returns-in-Ok-Some-clause-left c =
    let at = c.args.self.now in
    let new = c.vdev_io_start_write.new.self in
    let rest = c.vdev_io_start_write.ensures.rest in
    let kind = ap (λ (r : RequestNode). kind_of r.waiting.request.work) rest ∙ c.requires.kind in
    let due = (stands_in c.args.tops.now at.stage VdevIoStart at.is_due at.node c.requires.kind c.requires.stage tt c.requires.over.stands).1 in
    let asked : asked_of new.own ≡ asked_of at.node.own + 1 =
    subst (λ (o : Option LeafWork). asked_of new.own ≡ with_one o (asked_of at.node.own)) c.in-Ok-Some.field-0-is c.in-Ok-Some.ensures.count in
    let few : asked_of new.own ≤ 24 = asks_few c.args.tops.now new.own new.family c.vdev_io_start_write.ensures.over in
    io_grows at new (leaf_left c.new-child.result.stage c.new-child.result.is_out) c.requires.kind kind c.requires.stage due rest asked few c.vdev_io_start_write.ensures.pass c.new-child.ensures.left

pub returns-in-Ok-None-clause-moves : goal.returns-in-Ok-None-clause-moves
returns-in-Ok-None-clause-moves c = λ t st now.
    let at = c.args.self.now in
    let new = c.vdev_io_start_write.new.self in
    let kind = ap (λ (r : RequestNode). kind_of r.waiting.request.work) c.vdev_io_start_write.ensures.rest ∙ c.requires.kind in
    let ready = (stands_in c.args.tops.now at.stage VdevIoStart at.is_due at.node c.requires.kind c.requires.stage tt c.requires.over.stands).0 in
    let gave = none_gave new kind (written_unstored _ new.own c.vdev_io_start_write.ensures.ready) ∙ sym (none_gave at.node c.requires.kind (written_unstored _ at.node.own ready)) in
    request_does t st at _ []
    (subst (λ (o : Option LeafWork). DoesThen t st [] (λ mid. StartsBy t mid o (IsRequestNode t new))) c.in-Ok-None.field-0-is (c.in-Ok-None.ensures.starts t st now.tops_are now.is))
    (ap is_told (write_out c.next-self.result c.next-self.ensures) ∙ sym (ap is_told c.requires.stage)) gave

pub returns-in-Ok-None-clause-over : goal.returns-in-Ok-None-clause-over
returns-in-Ok-None-clause-over c =
    let at = c.args.self.now in
    let tops = c.args.tops.now in
    let new = c.vdev_io_start_write.new.self in
    let rest = c.vdev_io_start_write.ensures.rest in
    let kind = ap (λ (r : RequestNode). kind_of r.waiting.request.work) rest ∙ c.requires.kind in
    let out = all_out tops at.stage VdevIoStart at.is_due at.node c.requires.stage tt c.requires.over.stands in
    let ok : c.vdev_io_start_write.result ≡ Ok None = c.in-Ok-None.is ∙ ap (λ (o : Option LeafWork). Ok o) c.in-Ok-None.field-0-is in
    record {
      over = over_own tops at.node new new.family rest c.requires.over.over c.vdev_io_start_write.ensures.over;
      stands = stands_to tops c.next-self.result VdevIoDone false new kind (write_out c.next-self.result c.next-self.ensures) tt
          (subst (λ (k : KidsHeld). k.kids.handed ≡ length k.kids.kids) (sym (ap (λ (r : RequestNode). r.kids) rest)) out)
          (c.vdev_io_start_write.ensures.ready, c.in-Ok-None.ensures.issued, λ never. c.vdev_io_start_write.ensures.none ok);
    }

pub returns-in-Ok-None-clause-left : goal.returns-in-Ok-None-clause-left
returns-in-Ok-None-clause-left c =
    let at = c.args.self.now in
    let new = c.vdev_io_start_write.new.self in
    let rest = c.vdev_io_start_write.ensures.rest in
    let kind = ap (λ (r : RequestNode). kind_of r.waiting.request.work) rest ∙ c.requires.kind in
    let due = (stands_in c.args.tops.now at.stage VdevIoStart at.is_due at.node c.requires.kind c.requires.stage tt c.requires.over.stands).1 in
    let asked : asked_of new.own ≡ asked_of at.node.own =
    subst (λ (o : Option LeafWork). asked_of new.own ≡ with_one o (asked_of at.node.own)) c.in-Ok-None.field-0-is c.in-Ok-None.ensures.count in
    io_stays at new c.next-self.result c.requires.kind kind c.requires.stage (write_out c.next-self.result c.next-self.ensures) due rest asked c.vdev_io_start_write.ensures.pass

pub returns-in-Err-clause-refused : goal.returns-in-Err-clause-refused
returns-in-Err-clause-refused c = λ t st now.
    let at = c.args.self.now in
    let new = c.vdev_io_start_write.new.self in
    let kind = ap (λ (r : RequestNode). kind_of r.waiting.request.work) c.vdev_io_start_write.ensures.rest ∙ c.requires.kind in
    let ready = (stands_in c.args.tops.now at.stage VdevIoStart at.is_due at.node c.requires.kind c.requires.stage tt c.requires.over.stands).0 in
    let gave = none_gave new kind (written_unstored _ new.own c.vdev_io_start_write.ensures.ready) ∙ sym (none_gave at.node c.requires.kind (written_unstored _ at.node.own ready)) in
    request_does t st at _ [] (c.in-Err.ensures.err t st now.is) refl gave

pub returns-in-Ok-None-clause-stages : goal.returns-in-Ok-None-clause-stages
returns-in-Ok-None-clause-stages c = inl (write_leads c.args.self.now VdevIoStart c.next-self.result c.requires.kind c.requires.stage c.next-self.ensures)

pub returns-in-Ok-Some-clause-stages : goal.returns-in-Ok-Some-clause-stages
returns-in-Ok-Some-clause-stages c = let g = grows_so (Request c.args.self.now) VdevIoStart Vdev c.requires.stage refl (λ e. cc) (λ e. cc) in (refl, g.0, g.1, g.2)

pub returns-in-Ok-None-clause-pass : goal.returns-in-Ok-None-clause-pass
returns-in-Ok-None-clause-pass c = any_stage _ _ _ (write_in_pass _ _ c.args.self.now.node.own c.vdev_io_start_write.new.self.own
    (stands_in c.args.tops.now c.args.self.now.stage VdevIoStart c.args.self.now.is_due c.args.self.now.node c.requires.kind c.requires.stage tt c.requires.over.stands).0
    c.vdev_io_start_write.ensures.ready c.vdev_io_start_write.ensures.pass)

pub returns-in-Ok-Some-clause-pass : goal.returns-in-Ok-Some-clause-pass
returns-in-Ok-Some-clause-pass c = any_stage _ _ _ (write_in_pass _ _ c.args.self.now.node.own c.vdev_io_start_write.new.self.own
    (stands_in c.args.tops.now c.args.self.now.stage VdevIoStart c.args.self.now.is_due c.args.self.now.node c.requires.kind c.requires.stage tt c.requires.over.stands).0
    c.vdev_io_start_write.ensures.ready c.vdev_io_start_write.ensures.pass)
