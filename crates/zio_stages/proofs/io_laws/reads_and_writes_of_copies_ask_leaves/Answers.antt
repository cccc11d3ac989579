use Rattle.zio_stages.proofs.OutPlaces.{read_asks, read_is_out, read_out_is, write_asks, write_is_out, write_out_is}
use Rattle.zio_stages.proofs.io_laws.reads_and_writes_of_copies_ask_leaves.Goals as goal

pub returns-clause-write_asks : goal.returns-clause-write_asks
returns-clause-write_asks c = λ t bytes w x h. write_asks t bytes w x h

pub returns-clause-write_outs : goal.returns-clause-write_outs
returns-clause-write_outs c = λ t bytes w x n h. (write_is_out t bytes w x n h, write_out_is t bytes w x n h)

pub returns-clause-read_asks : goal.returns-clause-read_asks
returns-clause-read_asks c = λ t w x h. read_asks t w x h

pub returns-clause-read_outs : goal.returns-clause-read_outs
returns-clause-read_outs c = λ t w x n h. (read_is_out t w x n h, read_out_is t w x n h)
