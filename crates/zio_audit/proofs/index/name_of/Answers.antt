use Rattle.zio_audit.proofs.NameLemmas.{name_made}
use Rattle.zio_audit.proofs.index.name_of.Goals as goal

pub returns : goal.returns
returns c = name_made c.args.key.now c.path.inside.len c.path.inside.steps c.is_head.result c.path.invariant c.path.view_is c.is_head.ensures
