use Rattle.zio_heal.proofs.PlainEnds.{plainly}
use Rattle.zio_heal.proofs.laws.healed_scripts_store_plainly.Goals as goal

pub returns : goal.returns
returns c = plainly
