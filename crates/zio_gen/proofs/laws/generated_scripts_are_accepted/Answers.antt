use Rattle.zio_gen.proofs.ScriptLemmas.{generated_is_script}
use Rattle.zio_gen.proofs.laws.generated_scripts_are_accepted.Goals as goal

pub returns : goal.returns
returns c = λ seed n small some most. generated_is_script seed n small most
