use Rattle.std.proofs.Common.{◌≡◌, ◌+◌, ◌-◌, sym, ap, subst, ◌∙◌, arith}
use Rattle.zio_trace.specs.Tasks.{Got}
use Rattle.zio_frames.specs.Frames.{with_slot}
use Rattle.zio_frames.specs.Slots.{Heard}
use Rattle.zio_parts.specs.CopyWrites.{Writing, left_of_write}
use Rattle.zio_stages.specs.WriteIos.{IsWriteIo}
use Rattle.zio_stages.proofs.WriteIoMoves.{write_hears}
use Rattle.zio_stages.proofs.write_io.WriteIo.hear.Goals as goal

pub returns-clause-heard : goal.returns-clause-heard
returns-clause-heard c = λ t bytes x a is h.
    let w = c.args.self.now in
    let at : c.args.n ≡ w.base + (c.args.n - w.base) = omega (arith, c.requires.0) in
    subst (λ (y : Writing). IsWriteIo t bytes (record { write = y; prio = w.prio; base = w.base; asked = w.asked }) (with_slot x c.args.n (Heard (Got a)))) (sym c.hear.ensures.heard)
    (write_hears t bytes w x c.args.n (c.args.n - w.base) a c.args.error at c.requires.1
    (ap (left_of_write t.setting bytes) (sym c.hear.ensures.heard) ∙ c.hear.ensures.left t.setting bytes a is) h)
