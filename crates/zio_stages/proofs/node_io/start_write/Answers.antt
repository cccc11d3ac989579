use Rattle.std.proofs.Common.{◌≡◌, ◌∷◌, ◌++◌, [], ap, subst, sym, ◌∙◌, None}
use Rattle.zio_types.specs.declared.request.ChildKind.TheVariants.{Vdev}
use Rattle.zio_frames.specs.Frames.{Seat as SeatOf, asking}
use Rattle.zio_stages.specs.NodeChildren.{layer_seat, new_child}
use Rattle.zio_stages.specs.NodeIos.{SitsOn}
use Rattle.zio_stages.specs.WriteIos.{IsOutIn}
use Rattle.zio_stages.proofs.NodeIoLemmas.{sits_more}
use Rattle.zio_stages.proofs.NodeIoMoves.{write_starts}
use Rattle.zio_stages.proofs.OutMoves.{below_in, grown_in, newest_in, write_one_step}
use Rattle.zio_stages.proofs.node_io.start_write.Goals as goal

pub returns-clause-starts : goal.returns-clause-starts
returns-clause-starts c = λ t st e h.
    let w = c.args.io.now in
    let layer = c.args.layer in
    let family = c.args.family.now in
    let more : c.add.new.self ≡ family ++ new_child (layer_seat layer w.asked) Vdev ∷ [] =
    c.in_ok-add.ensures.ok ∙ ap (λ (s : SeatOf). family ++ new_child s Vdev ∷ []) (c.seat-seat.ensures ∙ ap (layer_seat layer) c.asked.ensures) in
    write_starts t c.args.bytes.now layer w c.hand_out.new.self family c.add.new.self c.in_ok-leaf.leaf st h more (c.in_ok-leaf.ensures.next t (asking st) e h.part)
    (λ op is. c.hand_out.ensures.handed t c.args.bytes.now (asking st) op e h.part is)

pub returns-clause-sits : goal.returns-clause-sits
returns-clause-sits c =
    let w = c.args.io.now in
    let v = c.hand_out.new.self in
    let layer = c.args.layer in
    let family = c.args.family.now in
    let more : c.add.new.self ≡ family ++ new_child (layer_seat layer w.asked) Vdev ∷ [] =
    c.in_ok-add.ensures.ok ∙ ap (λ (s : SeatOf). family ++ new_child s Vdev ∷ []) (c.seat-seat.ensures ∙ ap (layer_seat layer) c.asked.ensures) in
    subst (SitsOn layer (IsOutIn v)) (sym more)
    (sits_more layer (IsOutIn w) (IsOutIn v) w.asked family (new_child (layer_seat layer w.asked) Vdev)
    (grown_in w.base v.base (w.write.answers) (v.write.answers) None c.hand_out.ensures.base c.hand_out.ensures.outs)
    (newest_in w.base v.base w.asked (w.write.answers) (v.write.answers) None c.hand_out.ensures.base c.hand_out.ensures.outs c.requires.over.counted)
    (below_in w.base w.asked (w.write.answers) None c.requires.over.counted)
    (λ i. layer_seat layer w.asked) c.requires.sits)

pub returns-in_default-clause-none : goal.returns-in_default-clause-none
returns-in_default-clause-none c = λ e k.
    absurd (c.in_default.not-Child (write_one_step c.args.tops.now c.args.io.now c.next.result c.next.ensures.step k))
