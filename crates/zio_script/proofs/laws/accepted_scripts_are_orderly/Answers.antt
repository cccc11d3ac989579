use Rattle.zio_script.proofs.AcceptedLemmas.{reading_orderly, reading_ended}
use Rattle.zio_script.proofs.laws.accepted_scripts_are_orderly.Goals as goal

pub returns : goal.returns
returns c = record {
  rising = λ text script is. (reading_orderly text script is).rising;
  batches = λ text script is. (reading_orderly text script is).batches;
  ended = λ text script is. reading_ended text script is;
}
