use Rattle.std.proofs.Common.{sym, ap, ◌∙◌}
use Rattle.std.specs.List.{list_all}
use Rattle.zio_children.specs.RequestKids.{KidsUnderWay, is_told}
use Rattle.zio_stages.proofs.request_node.RequestNode.block_ahead.Goals as goal

pub block-requires-clause-told : goal.block-requires-clause-told
block-requires-clause-told c = record {
  all = c.requires.handed;
  told = ap (λ (k : KidsUnderWay). list_all is_told k.kids) (sym c.kids.ensures) ∙ sym c.all_told.ensures ∙ c.if-not-all_told.false;
}
