use Rattle.std.proofs.Common.{◌∙◌, refl}
use Rattle.zio_plain.proofs.PostLemmas.{tree_grown, tree_seen}
use Rattle.zio_plain.proofs.tree.tree_over.Goals as goal

pub invariant_of-result : goal.invariant_of-result
invariant_of-result c =
    tree_grown _ _ _ _ _ _ _ _ (c.from_vec.ensures ∙ c.push_reserved.ensures.items) c.requires.whole c.requires.fits
    c.joined-waiting.ensures.trees c.in-Ok.ensures.request refl refl c.new.ensures c.len-unfinished.ensures

pub returns-clause-made : goal.returns-clause-made
returns-clause-made c =
    tree_seen _ _ _ _ _ _ _ _ (c.from_vec.ensures ∙ c.push_reserved.ensures.items) c.joined-waiting.ensures.trees c.in-Ok.ensures.request
    refl refl c.new.ensures
