use Rattle.std.proofs.Common.{sym, subst}
use Rattle.zio_trace.specs.Tasks.{WriteCopies}
use Rattle.zio_frames.specs.Frames.{fresh_frame}
use Rattle.zio_parts.specs.CopyWrites.{Writing}
use Rattle.zio_stages.specs.WriteIos.{IsWriteIo}
use Rattle.zio_stages.proofs.WriteIoMoves.{write_fresh}
use Rattle.zio_stages.proofs.write_io.WriteIo.new.Goals as goal

pub returns-clause-fresh : goal.returns-clause-fresh
returns-clause-fresh c = λ t bytes.
    subst (λ (y : Writing). IsWriteIo t bytes (record { write = y; prio = c.args.prio; base = 0; asked = 0 }) (fresh_frame (WriteCopies bytes c.args.places))) (sym c.new.ensures.fresh)
    (write_fresh t bytes c.args.places c.args.prio)
