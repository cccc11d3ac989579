use Rattle.std.proofs.Common.{ap}
use Rattle.zio_audit.specs.SoFar.{SeenSoFar, entries_upto}
use Rattle.zio_audit.proofs.SoFarLemmas.{held_behind}
use Rattle.zio_audit.proofs.so_far.SpelledSoFarRecords.entries_behind.Goals as goal

pub returns : goal.returns
returns g c =
    let kept = c.self.inside.kept in
    held_behind (entries_upto g.K.Spelled.journals kept.rounds) c.args.self.now.journal.places kept.places c.as_slice-held.result.now c.self.inside.entries c.args.self.now.gone c.args.entries
    c.self.invariant c.as_slice-held.ensures (ap (λ (s : SeenSoFar). s.journal.places) c.self.view_is) (ap (λ (s : SeenSoFar). s.gone) c.self.view_is) c.requires.gone c.requires.few
