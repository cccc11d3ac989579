use Rattle.std.proofs.Common.{subst}
use Rattle.zio_stages.specs.RequestNodes.{IsOwnOver}
use Rattle.zio_stages.specs.declared.request_node.Own.{Own}
use Rattle.zio_stages.proofs.RequestWriteLemmas.{content_set, front_in, idle_at}
use Rattle.zio_stages.proofs.request_node.RequestNode.set_block.Goals as goal

pub returns-clause-set : goal.returns-clause-set
returns-clause-set c = λ t st h.
    let r = c.args.self.now in
    let ahead = c.requires.fits in
    content_set t r st _ h ahead.told (ahead.is t (front_in t r st h) r.family st h.round (idle_at t r st h c.requires.due))

pub returns-clause-over : goal.returns-clause-over
returns-clause-over c = λ tops over.
    let r = c.args.self.now in
    c.requires.fits.over tops r.family (subst (λ (o : Own). IsOwnOver tops o r.family) c.requires.due over)

pub returns-clause-begun : goal.returns-clause-begun
returns-clause-begun c = c.requires.fits.none
