use Rattle.std.proofs.Common.{refl}
use Rattle.zio_worked.proofs.Evaluation.{evaluation}
use Rattle.zio_worked.specs.Admission.{OtherReadsGoOn, ChangesAreRefused, FinishedNamesAreRead, HeldBatchIsAdmittedLate, NamesComeAndGo, IoComesFirst, NoentComesNext, ExistComesLast, OtherTreesRun}

pub other_reads_go_on : OtherReadsGoOn
unfolding evaluation
other_reads_go_on = refl

pub changes_are_refused : ChangesAreRefused
unfolding evaluation
changes_are_refused = refl

pub finished_names_are_read : FinishedNamesAreRead
unfolding evaluation
finished_names_are_read = refl

pub held_batch_is_admitted_late : HeldBatchIsAdmittedLate
unfolding evaluation
held_batch_is_admitted_late = refl

pub names_come_and_go : NamesComeAndGo
unfolding evaluation
names_come_and_go = refl

pub io_comes_first : IoComesFirst
unfolding evaluation
io_comes_first = refl

pub noent_comes_next : NoentComesNext
unfolding evaluation
noent_comes_next = refl

pub exist_comes_last : ExistComesLast
unfolding evaluation
exist_comes_last = refl

pub other_trees_run : OtherTreesRun
unfolding evaluation
other_trees_run = refl
