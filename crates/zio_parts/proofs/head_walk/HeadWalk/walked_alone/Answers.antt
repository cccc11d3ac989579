use Rattle.std.proofs.Common.{◌∙◌, ap, sym}
use Rattle.zio_parts.specs.HeadWalks.{Walking}
use Rattle.zio_parts.proofs.head_walk.HeadWalk.walked_alone.Goals as goal

pub unreachable-requires : goal.unreachable-requires
unreachable-requires c = c.requires c.in-Read.field-0 (sym (ap (λ (w : Walking). w.header) c.self.view_is) ∙ c.in-Read.is)
