use Rattle.std.proofs.Common.{ap}
use Rattle.zio_exchange.specs.Waits.{pending_of}
use Rattle.zio_nodes.specs.Told.{is_told}
use Rattle.zio_nodes.proofs.OwnBare.{tells_bare}
use Rattle.zio_nodes.proofs.request_at.RequestAt.tell_none.Goals as goal

pub returns-clause-moves : goal.returns-clause-moves
returns-clause-moves c = λ tops.
    let r = c.args.self.now.node in
    tells_bare tops c.args.self.now c.args.to _
    (λ t st is. c.what_is_no_write_has_no_pointer.ensures t st.outer r.attempt (pending_of r.waiting) is.forest is.op c.requires.other)
    (ap is_told c.requires.stage) c.requires.behind

pub returns-clause-stages : goal.returns-clause-stages
returns-clause-stages c = (c.requires.stage, c.requires.leads)
