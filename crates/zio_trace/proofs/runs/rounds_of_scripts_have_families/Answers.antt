use Rattle.zio_trace.proofs.RunFamilies.{script_starts}
use Rattle.zio_trace.proofs.runs.rounds_of_scripts_have_families.Goals as goal

pub returns : goal.returns
returns c = script_starts
