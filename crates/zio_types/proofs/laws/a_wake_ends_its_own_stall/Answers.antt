use Rattle.zio_types.specs.declared.request.Phase.TheVariants.{Ready, Done}
use Rattle.zio_types.proofs.MachineLemmas.{is_over-marked_at, stall_is_open-after}
use Rattle.zio_types.proofs.laws.a_wake_ends_its_own_stall.Goals as goal

pub returns-clause-ready : goal.returns-clause-ready
returns-clause-ready c = λ m kind n h. is_over-marked_at kind Ready n m.children m.stall h

pub returns-clause-done : goal.returns-clause-done
returns-clause-done c = λ m kind n error bits h. is_over-marked_at kind Done n m.children m.stall h

pub returns-clause-open_still : goal.returns-clause-open_still
returns-clause-open_still c = stall_is_open-after
