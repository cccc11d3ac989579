use Rattle.zio_types.proofs.ErrorLemmas.{rank-worst_error, worst_error_assoc, worst_error_comm, worst_error_same}
use Rattle.zio_types.proofs.laws.errors_join_in_any_order.Goals as goal

pub returns : goal.returns
returns c = record {
  greatest = rank-worst_error;
  associative = worst_error_assoc;
  commutative = worst_error_comm;
  idempotent = worst_error_same;
}
