use Rattle.std.proofs.Common.{ap, sym, subst}
use Rattle.zio_parts.specs.CopyWrites.{Writing}
use Rattle.zio_stages.specs.WriteIos.{IsWriteIo, IsWriteOver}
use Rattle.zio_stages.proofs.OutMoves.{write_first_pass}
use Rattle.zio_stages.proofs.WriteIoMoves.{write_goes_again, write_over_again}
use Rattle.zio_stages.proofs.write_io.WriteIo.begin_retry.Goals as goal

pub returns-clause-again : goal.returns-clause-again
returns-clause-again c = λ t bytes x e h.
    let w = c.args.self.now in
    subst (λ (y : Writing). IsWriteIo t bytes (record { write = y; prio = w.prio; base = w.asked; asked = w.asked }) x) (sym c.begin_retry.ensures.again)
    (write_goes_again t bytes c.args.tops.now w x e c.requires.step h)

pub returns-clause-over : goal.returns-clause-over
returns-clause-over c =
    let w = c.args.self.now in
    subst (λ (y : Writing). IsWriteOver c.args.tops.now (record { write = y; prio = w.prio; base = w.asked; asked = w.asked })) (sym c.begin_retry.ensures.again)
    (write_over_again c.args.tops.now w c.requires.over c.requires.step)

pub returns-clause-first : goal.returns-clause-first
returns-clause-first c = write_first_pass c.args.tops.now c.args.self.now c.requires.step

pub returns-clause-second : goal.returns-clause-second
returns-clause-second c = ap (λ (y : Writing). y.retry) c.begin_retry.ensures.again
