use Rattle.zio_stages.proofs.KidPointerLemmas.{count_pointers, told_still, valid_pointers}
use Rattle.zio_stages.proofs.write_laws.children_that_told_settle_the_content.Goals as goal

pub returns-clause-count : goal.returns-clause-count
returns-clause-count c = λ x. count_pointers x

pub returns-clause-valid : goal.returns-clause-valid
returns-clause-valid c = λ x h. valid_pointers x h

pub returns-clause-stays : goal.returns-clause-stays
returns-clause-stays c = λ x n bits error pointer h out. told_still x n bits error pointer h out
