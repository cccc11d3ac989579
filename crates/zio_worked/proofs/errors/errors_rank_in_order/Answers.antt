use Rattle.zio_worked.proofs.ErrorCases.{errors_rank_in_order, worse_of_two, worst_of_many, none_of_none, none_of_nothing}
use Rattle.zio_worked.proofs.errors.errors_rank_in_order.Goals as goal

pub returns : goal.returns
returns c = record {
  errors_rank_in_order = errors_rank_in_order;
  worse_of_two = worse_of_two;
  worst_of_many = worst_of_many;
  none_of_none = none_of_none;
  none_of_nothing = none_of_nothing;
}
