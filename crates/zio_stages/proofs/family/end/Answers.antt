use Rattle.std.proofs.Common.{◌∙◌, sym, ap, is_some}
use Rattle.zio_stages.proofs.FamilyLemmas.{copied_some, stays_ended}
use Rattle.zio_stages.proofs.family.end.Goals as goal

pub returns-else-is_none : goal.returns-else-is_none
returns-else-is_none c =
    stays_ended c.args.brood.now c.args.child c.requires
    (sym (ap is_some c.done_value.ensures) ∙ copied_some c.done_value.result c.is_none.result c.is_none.ensures c.if-is_none.false)
