use Rattle.zio_sound.proofs.Linked.{linked_families}
use Rattle.zio_sound.proofs.SoundRounds.{runnable_once}
use Rattle.zio_sound.proofs.runnable_trees_are_families.Goals as goal

pub returns : goal.returns
returns c = λ s trees f is runs linked. linked_families f linked (runnable_once s trees f is runs)
