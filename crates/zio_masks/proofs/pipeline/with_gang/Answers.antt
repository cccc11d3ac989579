use Rattle.zio_masks.proofs.MaskLemmas.{has-with_gang}
use Rattle.zio_masks.proofs.pipeline.with_gang.Goals as goal

pub returns-clause-stages : goal.returns-clause-stages
returns-clause-stages c = has-with_gang c.args.mask.bits
