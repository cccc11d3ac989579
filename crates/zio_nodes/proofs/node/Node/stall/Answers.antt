use Rattle.std.proofs.Common.{◌∙◌, ap, sym}
use Rattle.zio_nodes.specs.StageMoves.{stage_of}
use Rattle.zio_nodes.specs.Stalls.{children_of}
use Rattle.zio_nodes.proofs.Stalling.{stalled_so}
use Rattle.zio_nodes.proofs.node.Node.stall.Goals as goal

pub returns-in-Copies-clause-some : goal.returns-in-Copies-clause-some
returns-in-Copies-clause-some c = λ kind phase e.
    let self = c.args.self.now in
    stalled_so self c.stage.result c.family.result.now kind phase (c.stage.ensures ∙ ap stage_of (sym c.in-Copies.is)) (c.family.ensures ∙ ap children_of (sym c.in-Copies.is)) (c.stall_of.ensures.some kind phase e)

pub returns-in-Heads-clause-some : goal.returns-in-Heads-clause-some
returns-in-Heads-clause-some c = λ kind phase e.
    let self = c.args.self.now in
    stalled_so self c.stage-in-Heads.result c.family-in-Heads.result.now kind phase (c.stage-in-Heads.ensures ∙ ap stage_of (sym c.in-Heads.is)) (c.family-in-Heads.ensures ∙ ap children_of (sym c.in-Heads.is)) (c.stall_of-in-Heads.ensures.some kind phase e)

pub returns-in-Part-clause-some : goal.returns-in-Part-clause-some
returns-in-Part-clause-some c = λ kind phase e.
    let self = c.args.self.now in
    stalled_so self c.in-Part.at.stage c.family-in-Part.result.now kind phase (ap stage_of (sym c.in-Part.is)) (c.family-in-Part.ensures ∙ ap children_of (sym c.in-Part.is)) (c.stall_of-in-Part.ensures.some kind phase e)

pub returns-in-Request-clause-some : goal.returns-in-Request-clause-some
returns-in-Request-clause-some c = λ kind phase e.
    let self = c.args.self.now in
    stalled_so self c.in-Request.at.stage c.family-in-Request.result.now kind phase (ap stage_of (sym c.in-Request.is)) (c.family-in-Request.ensures ∙ ap children_of (sym c.in-Request.is)) (c.stall_of-in-Request.ensures.some kind phase e)
