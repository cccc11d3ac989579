use Rattle.std.proofs.Common.{ap}
use Rattle.zio_types.specs.Choices.{Ask}
use Rattle.zio_blocks.proofs.AskLemmas.{asks_none, asks_one}
use Rattle.zio_blocks.proofs.pieces.ask.Goals as goal

pub returns-in-Ok-clause-asks : goal.returns-in-Ok-clause-asks
returns-in-Ok-clause-asks g c =
    asks_one _ _ _ _ _ _ _ _ _ c.in-Ok.entry c.in-Ok.ensures.given c.in-Ok.ensures.lawful
    (record {
      request = ap (λ (a : Ask). a.key.request) c.in-Ok.ensures.asked;
      round = ap (λ (a : Ask). a.key.round) c.in-Ok.ensures.asked;
      attempt = ap (λ (a : Ask). a.key.attempt) c.in-Ok.ensures.asked;
    })
    c.in-Ok.ensures.used c.in-Ok.ensures.live c.choose.ensures.sizes c.in-Ok.ensures.held

pub returns-in-Ok-clause-entry : goal.returns-in-Ok-clause-entry
returns-in-Ok-clause-entry g c = (g.met.C.Chooser.lawful_found _ _ _ c.in-Ok.ensures.lawful).0

pub returns-in-Err-clause-asks : goal.returns-in-Err-clause-asks
returns-in-Err-clause-asks g c =
    asks_none _ _ _ _ _ _ _ _ _ (g.met.C.Chooser.lawful_none _ _) c.choose.ensures.sizes c.in-Err.ensures.err.0 c.in-Err.ensures.err.1 c.in-Err.ensures.err.2
