use Rattle.zio_stages.proofs.WriteIoMoves.{write_ends_well}
use Rattle.zio_stages.proofs.write_io.WriteIo.error.Goals as goal

pub returns-in_default : goal.returns-in_default
returns-in_default c = λ t bytes x e h.
    write_ends_well t bytes c.args.tops.now c.args.self.now x c.next.result e c.requires.over.places.mirrored c.requires.step c.in_default.not-End c.next.ensures.shows h
