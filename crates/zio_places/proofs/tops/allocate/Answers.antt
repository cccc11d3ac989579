use Rattle.std.proofs.Common.{get_or, ap, ◌∙◌}
use Rattle.zio_places.proofs.AllocateLemmas.{free-unheld, AreAllocated-one}
use Rattle.zio_places.proofs.tops.allocate.Goals as goal

pub enter-requires-clause-empty : goal.enter-requires-clause-empty
enter-requires-clause-empty c =
    ap (λ ls. get_or ls c.args.place.sector 0) (c.mark.ensures.lengths c.args.place.top) ∙ free-unheld c.args.tops.now c.args.place c.requires.kept c.requires.room

pub returns : goal.returns
returns c = AreAllocated-one _ _ _ c.args.place c.mark.ensures c.enter.ensures
