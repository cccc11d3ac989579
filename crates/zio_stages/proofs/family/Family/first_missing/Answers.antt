use Rattle.zio_stages.proofs.OwingLemmas.{missing_first}
use Rattle.zio_stages.proofs.family.Family.first_missing.Goals as goal

pub returns : goal.returns
returns c =
    let f = c.self.inside in
    missing_first c.args.kind c.args.phase f.brood f.sittings.items c.args.self.now c.missing.result c.self.invariant.0 c.self.view_is c.missing.ensures
