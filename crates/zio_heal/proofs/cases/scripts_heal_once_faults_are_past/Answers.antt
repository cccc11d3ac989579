use Rattle.zio_heal.proofs.HealedCasesProofs.{claims_may_fail, clear_is_not_last, no_clear_at_all, no_rows_heal, no_sum_no_damage, one_clear_too_few, others_go_on, panics_end, read_may_fail, reads_may_be_turned, turned_by_any_stay, turned_writes_stay, two_clears_heal, write_heals}
use Rattle.zio_heal.proofs.cases.scripts_heal_once_faults_are_past.Goals as goal

pub returns : goal.returns
returns c = record {
  write_heals = write_heals;
  reads_may_be_turned = reads_may_be_turned;
  two_clears_heal = two_clears_heal;
  no_rows_heal = no_rows_heal;
  turned_writes_stay = turned_writes_stay;
  turned_by_any_stay = turned_by_any_stay;
  one_clear_too_few = one_clear_too_few;
  clear_is_not_last = clear_is_not_last;
  no_clear_at_all = no_clear_at_all;
  claims_may_fail = claims_may_fail;
  read_may_fail = read_may_fail;
  no_sum_no_damage = no_sum_no_damage;
  others_go_on = others_go_on;
  panics_end = panics_end;
}
