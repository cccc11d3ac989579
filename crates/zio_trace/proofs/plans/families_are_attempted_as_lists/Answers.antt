use Rattle.zio_gang.specs.Attempts.{reexecutions_max}
use Rattle.zio_trace.proofs.FamilyLemmas.{families_attempted}
use Rattle.zio_trace.proofs.SettleLemmas.{tree_settles}
use Rattle.zio_trace.proofs.plans.families_are_attempted_as_lists.Goals as goal

pub returns : goal.returns
returns c = record {
  attempted = families_attempted;
  settled = λ j t p kids images h. tree_settles reexecutions_max j t 0 p kids images h;
}
