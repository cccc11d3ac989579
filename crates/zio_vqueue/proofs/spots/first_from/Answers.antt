use Rattle.std.proofs.Common.{sym, ◌∙◌}
use Rattle.zio_vqueue.proofs.RangeLemmas.{shelf_range, first_of_rest, none_of_rest}
use Rattle.zio_vqueue.proofs.spots.first_from.Goals as goal

pub returns-in-Some : goal.returns-in-Some
returns-in-Some c = sym (first_of_rest _ _ _ (sym (shelf_range c.args.shelf c.args.rank c.args.spots.now.entries) ∙ sym (c.range.ensures.between tt) ∙ c.in-Some.ensures.steps))

pub returns-in-None : goal.returns-in-None
returns-in-None c = sym (none_of_rest _ (sym (shelf_range c.args.shelf c.args.rank c.args.spots.now.entries) ∙ sym (c.range.ensures.between tt) ∙ c.in-None.ensures.steps.0))
