use Rattle.zio_stages.proofs.OwnWriteLemmas.{follows_block, foretells_block, own_is_stored}
use Rattle.zio_stages.proofs.write_laws.a_write_is_that_of_its_block.Goals as goal

pub returns-clause-follows : goal.returns-clause-follows
returns-clause-follows c = λ t part front attempt p pointers o h follows. follows_block t part front attempt p pointers o h follows

pub returns-clause-foretells : goal.returns-clause-foretells
returns-clause-foretells c = λ t part front attempt p pointers o h tells. foretells_block t part front attempt p pointers o h tells

pub returns-clause-comes_to : goal.returns-clause-comes_to
returns-clause-comes_to c = λ t attempt p pointers o slots x h ends. own_is_stored t attempt p pointers o slots x h ends
