use Rattle.std.proofs.Common.{sym, subst}
use Rattle.zio_stages.specs.WriteIos.{ShowsOuts}
use Rattle.zio_stages.specs.declared.write_io.IoStep.{IoStep}
use Rattle.zio_stages.proofs.WriteIoMoves.{step_outs}
use Rattle.zio_stages.proofs.write_io.WriteIo.next.Goals as goal

pub returns-clause-outs : goal.returns-clause-outs
returns-clause-outs c = λ t bytes x e h.
    subst (λ (io : IoStep). ShowsOuts io x) (sym c.io_of.ensures) (step_outs t bytes c.args.self.now x c.next-step.result (c.next-step.ensures.shows t.setting bytes e) h)
