use Rattle.zio_counts.proofs.TallyLemmas.{Shows-stalled}
use Rattle.zio_counts.proofs.counts.Counts.wait_for.Goals as goal

pub returns-clause-event : goal.returns-clause-event
returns-clause-event c =
    λ m s. rw c.stall_on.ensures (rw c.first_open-first.ensures (Shows-stalled c.args.kinds.now c.args.phase c.args.self.now m s))
