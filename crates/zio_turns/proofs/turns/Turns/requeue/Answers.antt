use Rattle.std.proofs.Common.{◌∷◌}
use Rattle.std.proofs.lemmas.Result.{on_ok_weaker}
use Rattle.zio_turns.proofs.Helps.{last_queued, stays_reordered}
use Rattle.zio_turns.proofs.turns.Turns.requeue.Goals as goal

pub returns-clause-kept : goal.returns-clause-kept
returns-clause-kept g c =
    on_ok_weaker c.queue_up.result
    (λ queued. stays_reordered g.N.NodeFacts.nodes c.args.self.now.nodes (c.args.key ∷ c.args.self.now.line) c.queue_up.new.line
    (last_queued c.args.self.now.line c.args.key c.queue_up.new.line queued))
    c.queue_up.ensures
