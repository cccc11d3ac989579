use Rattle.zio_stages.proofs.FrontLemmas.{claim_front, free_front, read_front}
use Rattle.zio_stages.proofs.own_laws.own_work_stays_while_children_go_on.Goals as goal

pub returns-clause-reads : goal.returns-clause-reads
returns-clause-reads c = λ t w family more tree front_asked front st place slot less parts h. read_front t w family more tree front_asked front st place slot less parts h

pub returns-clause-frees : goal.returns-clause-frees
returns-clause-frees c = λ w family more tree front_asked front st place slot less parts h. free_front w family more tree front_asked front st place slot less parts h

pub returns-clause-claims : goal.returns-clause-claims
returns-clause-claims c = λ w family more pointer front_asked front st place slot less parts h. claim_front w family more pointer front_asked front st place slot less parts h
