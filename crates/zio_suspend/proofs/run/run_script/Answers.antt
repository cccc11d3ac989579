use Rattle.zio_suspend.proofs.run.run_script.Goals as goal

pub returns-in-Ok-clause-whole : goal.returns-in-Ok-clause-whole
returns-in-Ok-clause-whole g c before told =
    let w = c.in-Ok.ensures.whole before told in
    (w.0, w.1, w.2, w.4, w.5)
