use Rattle.std.proofs.Common.{ap, ◌∙◌}
use Rattle.zio_course.proofs.NameLemmas.{named_is}
use Rattle.zio_course.specs.Names.{named_in}
use Rattle.zio_course.proofs.bound.Bound.block_of.Goals as goal

pub returns : goal.returns
returns c =
    c.get.ensures.value
    ∙ (named_is c.args.name.now c.self.inside.trees.entries ∙ ap (λ es. named_in es c.args.name.now) c.self.view_is)
