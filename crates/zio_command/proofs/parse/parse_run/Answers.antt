use Rattle.std.proofs.Common.{ap}
use Rattle.zio_command.specs.declared.parse.Parsed.{Parsed}
use Rattle.zio_command.specs.declared.words.Command.TheVariants.{Run}
use Rattle.zio_command.proofs.parse.parse_run.Goals as goal

pub returns-in-Ok-clause-ok : goal.returns-in-Ok-clause-ok
returns-in-Ok-clause-ok c options names split images =
    ap (λ (p : Parsed). Run p.workers p.picks p.show p.images) (c.in-Ok.ensures.ok options names split images)
