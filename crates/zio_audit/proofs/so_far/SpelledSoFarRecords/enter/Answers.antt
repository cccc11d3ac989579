use Rattle.std.proofs.Common.{◌≡◌, ◌+◌, subst, sym, arith}
use Rattle.zio_audit.specs.Replays.{entries_in}
use Rattle.zio_audit.specs.SoFar.{SeenSoFar}
use Rattle.zio_audit.proofs.SoFarLemmas.{more_held}
use Rattle.zio_audit.proofs.so_far.SpelledSoFarRecords.enter.Goals as goal

pub invariant_of-self-2 : goal.invariant_of-self-2
invariant_of-self-2 g c =
    more_held g.K.Spelled.journals c.self.inside.kept.rounds c.enter_round.new.journal.rounds c.self.inside.entries c.in-Some.all c.self.inside.kept.places c.enter_round.new.journal.places c.args.entries
    c.self.invariant c.in_ok-enter_round.ensures.rounds (subst (λ (s : SeenSoFar). c.args.entries ≡ entries_in g.K.Spelled.journals (s.journal.rounds + 1)) (sym c.self.view_is) c.requires.may) c.in_ok-enter_round.ensures.places (let a = c.in-Some.ensures in let b = c.len.ensures in omega (arith, a, b))
