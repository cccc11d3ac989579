use Rattle.zio_stages.specs.declared.part.PartOwn.{PartOwn}
use Rattle.zio_stages.proofs.PartOwnMoves.{body_handed}
use Rattle.zio_stages.proofs.part.PartOwn.hand_out_body.Goals as goal

pub returns-clause-out : goal.returns-clause-out
returns-clause-out c = λ t o asked slots h.
    let now : PartOwn = record { part = c.hand_out.new.self } in
    body_handed t c.args.self.now now o asked slots c.requires h c.hand_out.ensures.handed c.hand_out.ensures.slots
