use Rattle.std.proofs.Common.{◌≡◌, ap, arith, false, refl, sym, true, ◌∙◌, inl, inr}
use Rattle.zio_masks.specs.declared.stage.Stage.TheVariants.{VdevIoAssess, VdevIoDone, VdevIoStart}
use Rattle.zio_nodes.specs.Bounds.{due_left}
use Rattle.zio_nodes.specs.Told.{is_told}
use Rattle.zio_nodes.specs.declared.request_at.RequestAt.{RequestAt}
use Rattle.zio_nodes.proofs.BoundLemmas.{vdev_counts}
use Rattle.zio_nodes.proofs.RequestMoves.{request_goes}
use Rattle.zio_nodes.proofs.StageLemmas.{write_done}
use Rattle.zio_nodes.proofs.WriteLemmas.{all_out, is_due_now, stands_in, stands_to, write_less}
use Rattle.zio_nodes.proofs.StageLeads.{write_leads}
use Rattle.zio_nodes.proofs.StageAllows.{goes_back, stalls_so}
use Rattle.zio_nodes.specs.declared.node.Node.{Node}
use Rattle.zio_nodes.specs.declared.node.Node.TheVariants.{Request}
use Rattle.zio_types.specs.declared.request.Phase.TheVariants.{Done}
use Rattle.zio_types.specs.declared.request.ChildKind.TheVariants.{Vdev}
use Rattle.zio_nodes.proofs.PassLemmas.{any_stage}
use Rattle.zio_nodes.proofs.request_at.RequestAt.write_io_done.Goals as goal

pub vdev_io_done_write-requires-clause-issued : goal.vdev_io_done_write-requires-clause-issued
vdev_io_done_write-requires-clause-issued c =
    let at = c.args.self.now in
    (stands_in c.args.tops.now at.stage VdevIoDone at.is_due at.node c.requires.kind c.requires.stage tt c.requires.over.stands).1

pub returns-in-Wait-clause-moves : goal.returns-in-Wait-clause-moves
returns-in-Wait-clause-moves c = λ t st now. record {
  stays = record { is = now.is; told = refl; gave_same = refl; no_calls = refl };
  owing = vdev_counts st.children (c.vdev_io_done_write.ensures.waits c.in-Wait.is t st now.tops_are now.seated now.is);
}

pub returns-in-More-clause-moves : goal.returns-in-More-clause-moves
returns-in-More-clause-moves c = λ t st now. request_goes t st c.args.self.now _ now.is (sym (ap is_told c.requires.stage)) refl

pub returns-in-More-clause-over : goal.returns-in-More-clause-over
returns-in-More-clause-over c =
    let at = c.args.self.now in
    let tops = c.args.tops.now in
    let h = stands_in tops at.stage VdevIoDone at.is_due at.node c.requires.kind c.requires.stage tt c.requires.over.stands in
    record {
      over = c.requires.over.over;
      stands = stands_to tops VdevIoStart VdevIoStart true at.node c.requires.kind refl tt
          (all_out tops at.stage VdevIoDone at.is_due at.node c.requires.stage tt c.requires.over.stands) (h.0, refl);
    }

pub returns-in-More-clause-left : goal.returns-in-More-clause-left
returns-in-More-clause-left c =
    let at = c.args.self.now in
    let tops = c.args.tops.now in
    let h = stands_in tops at.stage VdevIoDone at.is_due at.node c.requires.kind c.requires.stage tt c.requires.over.stands in
    let after : RequestAt = record { node = at.node; stage = VdevIoStart; is_due = true } in
    let due : at.is_due ≡ true = is_due_now at.is_due (λ never. h.2 never (c.vdev_io_done_write.ensures.more c.in-More.is)) in
    write_less at after VdevIoDone VdevIoStart c.requires.kind c.requires.kind c.requires.stage refl tt tt refl (omega (arith, ap due_left due))

pub returns-in-On-clause-moves : goal.returns-in-On-clause-moves
returns-in-On-clause-moves c = λ t st now.
    request_goes t st c.args.self.now _ now.is (ap is_told (write_done c.next-self.result c.next-self.ensures) ∙ sym (ap is_told c.requires.stage)) refl

pub returns-in-On-clause-over : goal.returns-in-On-clause-over
returns-in-On-clause-over c =
    let at = c.args.self.now in
    let tops = c.args.tops.now in
    let h = stands_in tops at.stage VdevIoDone at.is_due at.node c.requires.kind c.requires.stage tt c.requires.over.stands in
    record {
      over = c.requires.over.over;
      stands = stands_to tops c.next-self.result VdevIoAssess false at.node c.requires.kind (write_done c.next-self.result c.next-self.ensures) tt
          (all_out tops at.stage VdevIoDone at.is_due at.node c.requires.stage tt c.requires.over.stands) (h.0, h.1, c.vdev_io_done_write.ensures.due c.in-On.is);
    }

pub returns-in-On-clause-left : goal.returns-in-On-clause-left
returns-in-On-clause-left c =
    let at = c.args.self.now in
    let after : RequestAt = record { node = at.node; stage = c.next-self.result; is_due = false } in
    write_less at after VdevIoDone VdevIoAssess c.requires.kind c.requires.kind c.requires.stage (write_done c.next-self.result c.next-self.ensures) tt tt refl (omega arith)

pub returns-in-More-clause-stages : goal.returns-in-More-clause-stages
returns-in-More-clause-stages c =
    let at = c.args.self.now in
    let after : Node = Request (record { node = at.node; stage = VdevIoStart; is_due = true }) in
    inr (inl (goes_back c.args.tops.now (Request at) after c.requires.stage (inr (c.vdev_io_done_write.ensures.more c.in-More.is)), refl))

pub returns-in-On-clause-stages : goal.returns-in-On-clause-stages
returns-in-On-clause-stages c = inl (write_leads c.args.self.now VdevIoDone c.next-self.result c.requires.kind c.requires.stage c.next-self.ensures)

pub returns-in-Wait-clause-stages : goal.returns-in-Wait-clause-stages
returns-in-Wait-clause-stages c =
    (refl, stalls_so c.args.self.now.stage VdevIoDone Vdev Done c.requires.stage refl)

pub returns-in-Wait-clause-pass : goal.returns-in-Wait-clause-pass
returns-in-Wait-clause-pass c = any_stage _ _ _ refl

pub returns-in-More-clause-pass : goal.returns-in-More-clause-pass
returns-in-More-clause-pass c = any_stage _ _ _ refl

pub returns-in-On-clause-pass : goal.returns-in-On-clause-pass
returns-in-On-clause-pass c = any_stage _ _ _ refl
