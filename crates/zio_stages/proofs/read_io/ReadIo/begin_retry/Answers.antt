use Rattle.std.proofs.Common.{ap, sym, subst}
use Rattle.zio_parts.specs.CopyReads.{Reading}
use Rattle.zio_stages.specs.ReadIos.{IsReadIo, IsReadOver}
use Rattle.zio_stages.proofs.OutMoves.{read_first_pass}
use Rattle.zio_stages.proofs.ReadIoHeard.{read_goes_again, read_over_again}
use Rattle.zio_stages.proofs.read_io.ReadIo.begin_retry.Goals as goal

pub returns-clause-again : goal.returns-clause-again
returns-clause-again c = λ t x e h.
    let w = c.args.self.now in
    subst (λ (y : Reading). IsReadIo t (record { read = y; check = w.check; prio = w.prio; is_reading = w.is_reading; base = w.base; asked = w.asked }) x) (sym c.begin_retry.ensures.again)
    (read_goes_again t c.args.tops.now w x e c.requires.step h)

pub returns-clause-over : goal.returns-clause-over
returns-clause-over c =
    let w = c.args.self.now in
    subst (λ (y : Reading). IsReadOver c.args.tops.now (record { read = y; check = w.check; prio = w.prio; is_reading = w.is_reading; base = w.base; asked = w.asked })) (sym c.begin_retry.ensures.again)
    (read_over_again c.args.tops.now w c.requires.over c.requires.step)

pub returns-clause-first : goal.returns-clause-first
returns-clause-first c = read_first_pass c.args.tops.now c.args.self.now c.requires.step

pub returns-clause-second : goal.returns-clause-second
returns-clause-second c = ap (λ (y : Reading). y.retry) c.begin_retry.ensures.again
