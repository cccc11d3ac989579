use Rattle.zio_stages.specs.declared.part.PartOwn.{PartOwn}
use Rattle.zio_stages.proofs.PartOwnMoves.{placed}
use Rattle.zio_stages.proofs.part.PartOwn.hear_places.Goals as goal

pub returns-clause-heard : goal.returns-clause-heard
returns-clause-heard c = λ t o asked slots a h.
    let now : PartOwn = record { part = c.hear_places.new.self } in
    placed t c.args.self.now now o asked slots a c.args.places c.requires.asked h c.hear_places.ensures.heard c.hear_places.ensures.slots
