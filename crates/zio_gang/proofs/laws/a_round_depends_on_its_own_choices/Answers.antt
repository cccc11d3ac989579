use Rattle.zio_gang.proofs.DependenceLemmas.{choices_law, used_law}
use Rattle.zio_gang.proofs.laws.a_round_depends_on_its_own_choices.Goals as goal

pub returns : goal.returns
returns c = record {
  choices = choices_law;
  used = used_law;
}
