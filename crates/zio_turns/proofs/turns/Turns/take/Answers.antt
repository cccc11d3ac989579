use Rattle.std.proofs.Common.{◌+◌, ◌∷◌, List, ℕ, length, slice_index, ap, ◌∙◌}
use Rattle.zio_staged.specs.Entries.{times_in}
use Rattle.zio_turns.proofs.Requeue.{length_taken, round_requeued, times_taken}
use Rattle.zio_turns.proofs.turns.Turns.take.Goals as goal

pub returns-clause-turn : goal.returns-clause-turn
returns-clause-turn g c = λ t sizes f before s leaves kept.
    round_requeued g.N.NodeFacts.nodes t sizes f before s c.args.self.now.nodes c.args.self.now.line (c.take.result ∷ c.take.new.self) leaves
    (λ k. ap (λ (n : ℕ). times_in k (n ∷ c.take.new.self)) c.take.ensures.value
    ∙ ap (λ (q : List ℕ). times_in k (slice_index c.args.self.now.line c.args.k ∷ q)) c.take.ensures.others
    ∙ times_taken k c.args.self.now.line c.args.k c.requires) kept

pub returns-clause-len : goal.returns-clause-len
returns-clause-len g c =
    ap (λ (q : List ℕ). length q + 1) c.take.ensures.others ∙ length_taken c.args.self.now.line c.args.k c.requires
