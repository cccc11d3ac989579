use Rattle.std.proofs.Common.{refl}
use Rattle.std.proofs.lemmas.Result.{IfOk-weaker}
use Rattle.zio_suspend.proofs.run.run_pool.Goals as goal

pub returns-clause-whole : goal.returns-clause-whole
returns-clause-whole g c =
    IfOk-weaker c.run_whole.result _ _
    (λ end whole before told. let w = whole before told in (w.0, w.1, w.2, w.3 refl, w.4, w.5))
    c.run_whole.ensures.whole
