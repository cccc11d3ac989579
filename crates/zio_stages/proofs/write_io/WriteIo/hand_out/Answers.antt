use Rattle.std.proofs.Common.{◌+◌, ◌*◌, ◌≤◌, ◌∙◌, sym, ap, subst, length, None, arith}
use Rattle.zio_frames.specs.Frames.{with_asked}
use Rattle.zio_frames.specs.Slots.{IsOut}
use Rattle.zio_parts.specs.Copies.{copies_at}
use Rattle.zio_parts.specs.CopyWrites.{Writing, left_of_write}
use Rattle.zio_parts.proofs.WantedLemmas.{copies_few}
use Rattle.zio_stages.specs.WriteIos.{IsWriteIo}
use Rattle.zio_stages.proofs.WriteIoMoves.{write_handed_out, write_room}
use Rattle.zio_stages.proofs.write_io.WriteIo.hand_out.Goals as goal

pub hand_out-requires : goal.hand_out-requires
hand_out-requires c =
    let w = c.args.self.now in
    let few : length (copies_at c.args.tops.now w.write.places) ≤ 4 * length w.write.places = copies_few c.args.tops.now w.write.places c.requires.over.places.mirrored in
    omega (arith, write_room c.args.tops.now w c.requires.step, c.requires.over.places.few)

pub overflow_add-self : goal.overflow_add-self
overflow_add-self c =
    let places = c.args.self.now.write.places in
    let few : length (copies_at c.args.tops.now places) ≤ 4 * length places = copies_few c.args.tops.now places c.requires.over.places.mirrored in
    omega (arith, c.requires.over.counted, c.requires.over.passes, c.requires.over.within, c.requires.over.places.few)

pub returns-clause-handed : goal.returns-clause-handed
returns-clause-handed c = λ t bytes x op e h is.
    let w = c.args.self.now in
    subst (λ (y : Writing). IsWriteIo t bytes (record { write = y; prio = w.prio; base = w.base; asked = w.asked + 1 }) (with_asked x op (IsOut None))) (sym c.hand_out.ensures.handed)
    (write_handed_out t bytes w x op h is (ap (left_of_write t.setting bytes) (sym c.hand_out.ensures.handed) ∙ c.hand_out.ensures.left t.setting bytes))
