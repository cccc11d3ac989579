use Rattle.zio_command.proofs.PoolLemmas.{reading_lawful_pool}
use Rattle.zio_command.proofs.laws.accepted_scripts_have_lawful_pools.Goals as goal

pub returns : goal.returns
returns c = reading_lawful_pool
