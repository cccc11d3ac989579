use Rattle.zio_heal.proofs.PremiseCasesProofs.{error_in_one_run, fault_meets_premises, one_more_doesnt, same_read_twice, same_sector_isnt_lawful, sectors_fit, wide_fault_heals, wide_script_is_read}
use Rattle.zio_heal.proofs.cases.runs_meet_what_healing_asks_for.Goals as goal

pub returns : goal.returns
returns c = record {
  sectors_fit = sectors_fit;
  one_more_doesnt = one_more_doesnt;
  fault_meets_premises = fault_meets_premises;
  same_sector_isnt_lawful = same_sector_isnt_lawful;
  wide_script_is_read = wide_script_is_read;
  wide_fault_heals = wide_fault_heals;
  same_read_twice = same_read_twice;
  error_in_one_run = error_in_one_run;
}
