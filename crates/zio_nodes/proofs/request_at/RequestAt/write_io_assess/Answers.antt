use Rattle.std.proofs.Common.{◌≡◌, [], ap, arith, false, inl, length, refl, subst, sym, true, ◌∙◌, inr}
use Rattle.zio_masks.specs.declared.stage.Stage.TheVariants.{Done, VdevIoAssess, VdevIoStart}
use Rattle.zio_script.specs.Requests.{kind_of}
use Rattle.zio_stages.specs.RequestKinds.{is_stored}
use Rattle.zio_stages.specs.KidTrees.{KidsHeld}
use Rattle.zio_stages.specs.declared.request_node.RequestNode.{RequestNode}
use Rattle.zio_nodes.specs.Bounds.{pass_left}
use Rattle.zio_nodes.specs.Told.{is_told}
use Rattle.zio_nodes.specs.declared.request_at.RequestAt.{RequestAt}
use Rattle.zio_nodes.proofs.KidMarks.{over_own}
use Rattle.zio_nodes.proofs.RequestBoundLemmas.{end_most}
use Rattle.zio_nodes.proofs.RequestMoves.{request_does}
use Rattle.zio_nodes.proofs.StageLemmas.{write_assessed}
use Rattle.zio_nodes.proofs.WriteLemmas.{all_out, none_gave, stands_in, stands_to, write_less, written_unstored}
use Rattle.zio_nodes.proofs.StageLeads.{write_leads}
use Rattle.zio_nodes.proofs.StageAllows.{goes_again, write_pass}
use Rattle.zio_nodes.specs.declared.node.Node.TheVariants.{Request}
use Rattle.zio_nodes.proofs.request_at.RequestAt.write_io_assess.Goals as goal

pub vdev_io_assess_write-requires-clause-issued : goal.vdev_io_assess_write-requires-clause-issued
vdev_io_assess_write-requires-clause-issued c =
    let at = c.args.self.now in
    (stands_in c.args.tops.now at.stage VdevIoAssess at.is_due at.node c.requires.kind c.requires.stage tt c.requires.over.stands).1

pub vdev_io_assess_write-requires-clause-due : goal.vdev_io_assess_write-requires-clause-due
vdev_io_assess_write-requires-clause-due c =
    let at = c.args.self.now in
    (stands_in c.args.tops.now at.stage VdevIoAssess at.is_due at.node c.requires.kind c.requires.stage tt c.requires.over.stands).2

pub returns-then-vdev_io_assess_write-clause-moves : goal.returns-then-vdev_io_assess_write-clause-moves
returns-then-vdev_io_assess_write-clause-moves c = λ t st now.
    let at = c.args.self.now in
    let new = c.vdev_io_assess_write.new.self in
    let kind = ap (λ (r : RequestNode). kind_of r.waiting.request.work) c.vdev_io_assess_write.ensures.rest ∙ c.requires.kind in
    let h = stands_in c.args.tops.now at.stage VdevIoAssess at.is_due at.node c.requires.kind c.requires.stage tt c.requires.over.stands in
    request_does t st at _ [] (c.vdev_io_assess_write.ensures.does t st now.tops_are now.is) (sym (ap is_told c.requires.stage))
    (none_gave new kind (written_unstored _ new.own c.vdev_io_assess_write.ensures.issued) ∙ sym (none_gave at.node c.requires.kind (written_unstored _ at.node.own h.1)))

pub returns-then-vdev_io_assess_write-clause-over : goal.returns-then-vdev_io_assess_write-clause-over
returns-then-vdev_io_assess_write-clause-over c =
    let at = c.args.self.now in
    let tops = c.args.tops.now in
    let new = c.vdev_io_assess_write.new.self in
    let rest = c.vdev_io_assess_write.ensures.rest in
    let kind = ap (λ (r : RequestNode). kind_of r.waiting.request.work) rest ∙ c.requires.kind in
    let h = stands_in tops at.stage VdevIoAssess at.is_due at.node c.requires.kind c.requires.stage tt c.requires.over.stands in
    let out = all_out tops at.stage VdevIoAssess at.is_due at.node c.requires.stage tt c.requires.over.stands in
    record {
      over = over_own tops at.node new at.node.family rest c.requires.over.over c.vdev_io_assess_write.ensures.over;
      stands = stands_to tops VdevIoStart VdevIoStart true new kind refl tt
          (subst (λ (k : KidsHeld). k.kids.handed ≡ length k.kids.kids) (sym (ap (λ (r : RequestNode). r.kids) rest)) out)
          (c.vdev_io_assess_write.ensures.ready h.0, refl);
    }

pub returns-then-vdev_io_assess_write-clause-left : goal.returns-then-vdev_io_assess_write-clause-left
returns-then-vdev_io_assess_write-clause-left c =
    let at = c.args.self.now in
    let new = c.vdev_io_assess_write.new.self in
    let rest = c.vdev_io_assess_write.ensures.rest in
    let after : RequestAt = record { node = new; stage = VdevIoStart; is_due = true } in
    let yes : c.vdev_io_assess_write.result ≡ true = c.if-vdev_io_assess_write.true in
    let again = c.vdev_io_assess_write.ensures.again yes in
    write_less at after VdevIoAssess VdevIoStart c.requires.kind (ap (λ (r : RequestNode). kind_of r.waiting.request.work) rest ∙ c.requires.kind) c.requires.stage refl tt tt
    (ap (λ (r : RequestNode). r.kids.due) rest) (omega (arith, c.vdev_io_assess_write.ensures.count yes, ap pass_left again.0, ap pass_left again.1))

pub returns-clause-moves : goal.returns-clause-moves
returns-clause-moves c = λ t st now.
    let at = c.args.self.now in
    let new = c.vdev_io_assess_write.new.self in
    let kind = ap (λ (r : RequestNode). kind_of r.waiting.request.work) c.vdev_io_assess_write.ensures.rest ∙ c.requires.kind in
    let h = stands_in c.args.tops.now at.stage VdevIoAssess at.is_due at.node c.requires.kind c.requires.stage tt c.requires.over.stands in
    request_does t st at _ [] (c.vdev_io_assess_write.ensures.does t st now.tops_are now.is)
    (ap is_told (write_assessed c.next-self.result c.next-self.ensures) ∙ sym (ap is_told c.requires.stage))
    (none_gave new kind (written_unstored _ new.own c.vdev_io_assess_write.ensures.issued) ∙ sym (none_gave at.node c.requires.kind (written_unstored _ at.node.own h.1)))

pub returns-clause-over : goal.returns-clause-over
returns-clause-over c =
    let at = c.args.self.now in
    let tops = c.args.tops.now in
    let new = c.vdev_io_assess_write.new.self in
    let rest = c.vdev_io_assess_write.ensures.rest in
    let kind = ap (λ (r : RequestNode). kind_of r.waiting.request.work) rest ∙ c.requires.kind in
    let out = all_out tops at.stage VdevIoAssess at.is_due at.node c.requires.stage tt c.requires.over.stands in
    record {
      over = over_own tops at.node new at.node.family rest c.requires.over.over c.vdev_io_assess_write.ensures.over;
      stands = stands_to tops c.next-self.result Done false new kind (write_assessed c.next-self.result c.next-self.ensures) tt
          (subst (λ (k : KidsHeld). k.kids.handed ≡ length k.kids.kids) (sym (ap (λ (r : RequestNode). r.kids) rest)) out)
          (inl (c.vdev_io_assess_write.ensures.written c.if-vdev_io_assess_write.false));
    }

pub returns-clause-left : goal.returns-clause-left
returns-clause-left c =
    let at = c.args.self.now in
    let new = c.vdev_io_assess_write.new.self in
    let rest = c.vdev_io_assess_write.ensures.rest in
    let after : RequestAt = record { node = new; stage = c.next-self.result; is_due = false } in
    write_less at after VdevIoAssess Done c.requires.kind (ap (λ (r : RequestNode). kind_of r.waiting.request.work) rest ∙ c.requires.kind) c.requires.stage
    (write_assessed c.next-self.result c.next-self.ensures) tt tt (ap (λ (r : RequestNode). r.kids.due) rest) (omega (arith, end_most (is_stored new.own)))

pub returns-then-vdev_io_assess_write-clause-stages : goal.returns-then-vdev_io_assess_write-clause-stages
returns-then-vdev_io_assess_write-clause-stages c =
    let at = c.args.self.now in
    let new = c.vdev_io_assess_write.new.self in
    let again = c.vdev_io_assess_write.ensures.again c.if-vdev_io_assess_write.true in
    let h = stands_in c.args.tops.now at.stage VdevIoAssess at.is_due at.node c.requires.kind c.requires.stage tt c.requires.over.stands in
    inr (inl (goes_again (Request at) _ c.requires.stage (write_pass _ at.node.own h.1 ∙ again.0) (write_pass _ new.own c.vdev_io_assess_write.ensures.issued ∙ again.1), refl))

pub returns-clause-stages : goal.returns-clause-stages
returns-clause-stages c = inl (write_leads c.args.self.now VdevIoAssess c.next-self.result c.requires.kind c.requires.stage c.next-self.ensures)
