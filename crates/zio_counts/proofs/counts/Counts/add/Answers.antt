use Rattle.zio_counts.proofs.TallyLemmas.{Shows-raised}
use Rattle.zio_counts.proofs.counts.Counts.add.Goals as goal

pub returns-clause-event : goal.returns-clause-event
returns-clause-event c = λ m s room. rw c.raise.ensures (Shows-raised c.args.kind c.args.self.now m s room)
