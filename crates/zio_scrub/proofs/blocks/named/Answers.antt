use Rattle.zio_scrub.proofs.blocks.named.Goals as goal

pub returns-in-Ok-clause-ok : goal.returns-in-Ok-clause-ok
returns-in-Ok-clause-ok c = rw c.in-Some.is c.in-Ok.ensures
