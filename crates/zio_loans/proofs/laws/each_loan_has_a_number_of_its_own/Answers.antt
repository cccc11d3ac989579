use Rattle.zio_loans.proofs.Outs.{back, fresh, lent, none_counted, nothing_counts, one_value}
use Rattle.zio_loans.proofs.laws.each_loan_has_a_number_of_its_own.Goals as goal

pub returns : goal.returns
returns g c = record {
  one = one_value;
  lent = lent;
  fresh = fresh;
  back = back;
  none = λ out. (nothing_counts out, none_counted out);
}
