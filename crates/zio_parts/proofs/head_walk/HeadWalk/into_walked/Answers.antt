use Rattle.std.proofs.Common.{◌∙◌, ap}
use Rattle.zio_parts.specs.Gathers.{gathered}
use Rattle.zio_parts.specs.HeadWalks.{Walking, walk_left}
use Rattle.zio_parts.proofs.WalkLemmas.{walked_read}
use Rattle.zio_parts.proofs.head_walk.HeadWalk.into_walked.Goals as goal

pub returns-in-Ok-clause-left : goal.returns-in-Ok-clause-left
returns-in-Ok-clause-left c =
    let x = c.self.inside in
    let i = c.self.invariant in
    c.join.ensures
    ∙ walked_read x.judged x.bp.gang x.levels x.bp x.path x.header c.in-Read.bytes x.handed x.left (gathered c.in-Ok.head) i.asked c.in-Read.is i.behind c.in-Ok.ensures.head
    ∙ ap walk_left c.self.view_is

pub walked_alone-requires : goal.walked_alone-requires
walked_alone-requires c = λ bytes e. c.in_default.not-Read bytes (ap (λ (w : Walking). w.header) c.self.view_is ∙ e)
