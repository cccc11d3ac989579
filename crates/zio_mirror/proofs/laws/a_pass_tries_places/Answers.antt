use Rattle.zio_mirror.proofs.PlanLemmas.{pass_tries}
use Rattle.zio_mirror.proofs.laws.a_pass_tries_places.Goals as goal

pub returns : goal.returns
returns c = record {
  found = λ s retry good images len places. (pass_tries s retry good images len places).0;
  errors = λ s retry good images len places. (pass_tries s retry good images len places).1;
}
