use Rattle.std.proofs.Common.{ap}
use Rattle.zio_command.specs.declared.parse.Parsed.{Parsed}
use Rattle.zio_command.specs.declared.words.Command.TheVariants.{Scrub}
use Rattle.zio_command.proofs.parse.parse_scrub.Goals as goal

pub returns-in-Ok-clause-ok : goal.returns-in-Ok-clause-ok
returns-in-Ok-clause-ok c options names split images =
    ap (λ (p : Parsed). Scrub p.picks p.images) (c.in-Ok.ensures.ok options names split images)
