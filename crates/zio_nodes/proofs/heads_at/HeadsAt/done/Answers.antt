use Rattle.zio_nodes.proofs.HeadsLemmas.{walk_ends}
use Rattle.zio_nodes.proofs.heads_at.HeadsAt.done.Goals as goal

pub returns-in-Ok-clause-moves : goal.returns-in-Ok-clause-moves
returns-in-Ok-clause-moves c = λ t st now.
    let ended = c.in-Ok.ensures.walked t st now.is in
    walk_ends t c.args.self.now st c.in-Ok.walked now.is c.requires.stage ended.0 ended.1
