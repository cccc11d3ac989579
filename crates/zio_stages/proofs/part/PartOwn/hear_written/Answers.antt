use Rattle.zio_stages.specs.declared.part.PartOwn.{PartOwn}
use Rattle.zio_stages.proofs.PartAsksLemmas.{own_number}
use Rattle.zio_stages.proofs.PartOwnMoves.{written}
use Rattle.zio_stages.proofs.part.PartOwn.hear_written.Goals as goal

pub returns-clause-heard : goal.returns-clause-heard
returns-clause-heard c = λ n a t o asked slots h.
    let old = c.args.self.now in
    let now : PartOwn = record { part = c.hear_written.new.self } in
    written t old now o asked slots n c.args.error h c.requires (own_number old.part.placing old.part n c.requires a) c.hear_written.ensures.heard c.hear_written.ensures.slots
