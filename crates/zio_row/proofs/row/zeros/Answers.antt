use Rattle.std.proofs.Common.{rules}
use Rattle.zio_row.specs.Row.{zeros}
use Rattle.zio_row.proofs.row.zeros.Goals as goal

pub returns : goal.returns
unfolding zeros
returns c = search rules
