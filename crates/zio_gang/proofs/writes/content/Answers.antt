use Rattle.zio_gang.proofs.ContentLemmas.{padded_size}
use Rattle.zio_gang.proofs.writes.content.Goals as goal

pub returns-clause-size : goal.returns-clause-size
returns-clause-size c = padded_size _ _ _ c.in_ok-pad.ensures c.in_ok-bytes.ensures.size
