use Rattle.zio_heal.proofs.DisciplineLemmas.{begin_fine, healed_must, round_fine, tree_fine}
use Rattle.zio_heal.proofs.laws.requests_that_may_not_fail_end_without_error.Goals as goal

pub returns : goal.returns
returns c = record {
  healed = healed_must;
  begin = begin_fine;
  attempts = λ journal t attempt tree images h.
      let fine = tree_fine journal t attempt tree images h in (fine.ended, fine.left);
  rounds = round_fine;
}
