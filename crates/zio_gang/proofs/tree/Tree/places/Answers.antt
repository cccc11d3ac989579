use Rattle.std.proofs.Common.{◌<◌, List, length, get_or, ap, subst, ◌∙◌}
use Rattle.zio_blkptr.specs.Pointers.{places_of}
use Rattle.zio_gang.specs.declared.tree.Head.{Head}
use Rattle.zio_gang.proofs.PlaceLemmas.{heads_more}
use Rattle.zio_gang.proofs.tree.Tree.places.Goals as goal

pub loop-head-preserved : goal.loop-head-preserved
loop-head-preserved c =
    let i = c.loop-head.head-index in
    let head = c.head-item.result in
    let whole = c.as_slice-head-items.ensures in
    heads_more c.args.self.now.heads i head (places_of c.args.self.now.bp) c.loop-head.places c.add_members.new.places
    (subst (λ (heads : List Head). i < length heads) whole c.loop-head-test.true)
    (c.head-item.is ∙ ap (λ (heads : List Head). get_or heads i head) whole)
    c.loop-head.invariant c.in_ok-add_members.ensures
