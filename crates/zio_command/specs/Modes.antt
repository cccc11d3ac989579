-- How a script is run.
use Rattle.std.specs.Prelude.{true, false}
use Rattle.zio_report.specs.declared.report.Show.{Show}
use Rattle.zio_report.specs.declared.report.Show.TheVariants.{Report}
use Rattle.zio_command.specs.declared.mode.RunMode.{RunMode}

-- this is shown of the run, and nothing is scrubbed
abbrev pub running : Show → RunMode
running show = record { show = show; scrubs = false }

-- a report of no options, and then the blocks that are bound are scrubbed
abbrev pub scrubbing : RunMode
scrubbing = record { show = Report false false; scrubs = true }
