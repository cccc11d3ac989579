use Rattle.std.proofs.Common.{sym, subst}
use Rattle.zio_trace.specs.Tasks.{good_by}
use Rattle.zio_stages.specs.WriteIos.{ShowsOuts}
use Rattle.zio_stages.specs.declared.write_io.IoStep.{IoStep}
use Rattle.zio_stages.proofs.ReadIoLemmas.{read_step_outs}
use Rattle.zio_stages.proofs.read_io.ReadIo.next.Goals as goal

pub returns-clause-outs : goal.returns-clause-outs
returns-clause-outs c = λ t x e h.
    subst (λ (io : IoStep). ShowsOuts io x) (sym c.io_of_read.ensures) (read_step_outs t c.args.self.now x c.next-step.result (c.next-step.ensures.shows t.setting (good_by c.args.self.now.check) e) h)
