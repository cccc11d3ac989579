use Rattle.std.proofs.Common.{ap, ◌∙◌}
use Rattle.zio_course.proofs.NameLemmas.{among_is}
use Rattle.zio_course.specs.Names.{is_name_in}
use Rattle.zio_course.proofs.awaited.Awaited.contains.Goals as goal

pub returns : goal.returns
returns c =
    c.contains.ensures
    ∙ (among_is c.args.name.now c.self.inside.names.keys ∙ ap (λ names. is_name_in names c.args.name.now) c.self.view_is)
