use Rattle.zio_worked.proofs.AdmissionCases.{other_reads_go_on, changes_are_refused, finished_names_are_read, held_batch_is_admitted_late, names_come_and_go, io_comes_first, noent_comes_next, exist_comes_last, other_trees_run}
use Rattle.zio_worked.proofs.admission.admission_answers_whole_trees.Goals as goal

pub returns : goal.returns
returns c = record {
  other_reads_go_on = other_reads_go_on;
  changes_are_refused = changes_are_refused;
  finished_names_are_read = finished_names_are_read;
  held_batch_is_admitted_late = held_batch_is_admitted_late;
  names_come_and_go = names_come_and_go;
  io_comes_first = io_comes_first;
  noent_comes_next = noent_comes_next;
  exist_comes_last = exist_comes_last;
  other_trees_run = other_trees_run;
}
