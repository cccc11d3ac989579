use Rattle.zio_course.proofs.JoinLemmas.{batch_suspended, names_awaited}
use Rattle.zio_course.proofs.WaitLemmas.{left_suspended, suspended_runnable}
use Rattle.zio_course.proofs.laws.suspended_trees_are_runnable.Goals as goal

pub returns-clause-runnable : goal.returns-clause-runnable
returns-clause-runnable c = suspended_runnable

pub returns-clause-left : goal.returns-clause-left
returns-clause-left c = left_suspended

pub returns-clause-batch : goal.returns-clause-batch
returns-clause-batch c = batch_suspended

pub returns-clause-awaited : goal.returns-clause-awaited
returns-clause-awaited c = names_awaited
