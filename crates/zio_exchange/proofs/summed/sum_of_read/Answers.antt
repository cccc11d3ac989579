use Rattle.std.proofs.Common.{◌∙◌, refl}
use Rattle.zio_exchange.proofs.SumLemmas.{sum_by_words}
use Rattle.zio_exchange.proofs.summed.sum_of_read.Goals as goal

pub returns-in-Fletcher4 : goal.returns-in-Fletcher4
returns-in-Fletcher4 c = c.sum.ensures ∙ sum_by_words c.args.kind _ c.args.bytes.now c.in-Fletcher4.is refl
