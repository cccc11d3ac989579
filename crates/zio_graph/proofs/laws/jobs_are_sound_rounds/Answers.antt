use Rattle.zio_graph.proofs.Sounds.{sound_job}
use Rattle.zio_graph.proofs.laws.jobs_are_sound_rounds.Goals as goal

pub returns : goal.returns
returns c = sound_job
