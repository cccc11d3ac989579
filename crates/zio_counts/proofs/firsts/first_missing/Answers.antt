use Rattle.std.proofs.Common.{ap, sym, ◌∙◌, arith}
use Rattle.std.proofs.lemmas.List.Sums.{position_or_len_is}
use Rattle.zio_types.specs.declared.request.ChildKind.TheVariants.{Vdev}
use Rattle.zio_counts.specs.Broods.{misses, new_child}
use Rattle.zio_counts.proofs.firsts.first_missing.Goals as goal

pub returns-else-not-misses : goal.returns-else-not-misses
returns-else-not-misses g c =
    let child = c.index-children-at.result in
    sym (position_or_len_is (misses c.args.kind c.args.phase) c.args.children.now c.loop-at.at child c.loop-at.invariant.within
    (λ k lt. c.loop-at.invariant.before k child lt)
    (λ lt. sym (ap (misses c.args.kind c.args.phase) c.index-children-at.is) ∙ (sym c.misses.ensures ∙ c.if-not-misses.false)))

pub returns-after-loop-at : goal.returns-after-loop-at
returns-after-loop-at g c =
    sym (position_or_len_is (misses c.args.kind c.args.phase) c.args.children.now c.loop-at.at (new_child Vdev 0) c.loop-at.invariant.within
    (λ k lt. c.loop-at.invariant.before k (new_child Vdev 0) lt)
    (λ lt. absurd (omega (arith, lt, c.loop-at-test.false))))
