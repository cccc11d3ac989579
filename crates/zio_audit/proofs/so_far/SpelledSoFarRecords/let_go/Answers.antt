use Rattle.zio_audit.proofs.SoFarLemmas.{none_held}
use Rattle.zio_audit.specs.SoFar.{entries_upto}
use Rattle.zio_audit.proofs.so_far.SpelledSoFarRecords.let_go.Goals as goal

pub invariant_of-self : goal.invariant_of-self
invariant_of-self g c = none_held (entries_upto g.K.Spelled.journals c.self.inside.kept.rounds) c.self.inside.kept.places c.new.result c.self.inside.entries c.self.invariant c.new.ensures
