use Rattle.zio_spelled.proofs.ShapeLemmas.{take_exact}
use Rattle.zio_spelled.proofs.take.take_line.Goals as goal

pub returns : goal.returns
returns c = take_exact c.args.tops.now c.args.round c.args.line.now c.take_in.result c.take_in.ensures
