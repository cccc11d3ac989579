use Rattle.std.proofs.Common.{arith}
use Rattle.zio_turns.proofs.TableLemmas.{doubled}
use Rattle.zio_turns.proofs.table.roomy_size.Goals as goal

pub returns-else-held-size-clause-sized : goal.returns-else-held-size-clause-sized
returns-else-held-size-clause-sized c = doubled c.args.size (omega arith) c.requires.sized
