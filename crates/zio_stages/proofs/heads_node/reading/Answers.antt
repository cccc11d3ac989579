use Rattle.std.proofs.Common.{refl}
use Rattle.zio_stages.proofs.HeadsOver.{claimed_read, kept_read}
use Rattle.zio_stages.proofs.heads_node.reading.Goals as goal

pub returns-in-Kept-clause-fresh : goal.returns-in-Kept-clause-fresh
returns-in-Kept-clause-fresh c = λ t tops.
    kept_read t c.new.result c.args.read _ c.in-Kept.bytes c.kept-check.result _ c.args.places (c.new.ensures.fresh t tops) c.kept-check.ensures refl c.in-Kept.is c.requires.at

pub returns-in-Claimed-clause-fresh : goal.returns-in-Claimed-clause-fresh
returns-in-Claimed-clause-fresh c = λ t tops.
    claimed_read t c.new-in-Claimed.result c.args.read c.in-Claimed.bp c.claimed-check.result _ c.args.places (c.new-in-Claimed.ensures.fresh t tops) c.claimed-check.ensures refl c.in-Claimed.is c.requires.at
