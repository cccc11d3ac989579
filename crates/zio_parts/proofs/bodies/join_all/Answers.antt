use Rattle.std.proofs.Common.{◌∙◌, ◌++◌, ◌∷◌, [], sym, ap, take}
use Rattle.std.proofs.lemmas.List.{take_more}
use Rattle.zio_parts.specs.Joins.{then_got}
use Rattle.zio_parts.specs.TreeReads.{bodies_in}
use Rattle.zio_parts.proofs.TreeReadLemmas.{bodies_more}
use Rattle.zio_parts.proofs.bodies.join_all.Goals as goal

pub loop-found-preserved : goal.loop-found-preserved
loop-found-preserved c =
    let xs = c.args.results.now in
    let n = c.loop-found.found-index in
    let item = c.found-item.result in
    c.in_ok-joined.ensures ∙ ap (λ b. then_got b item) c.loop-found.invariant ∙ sym (bodies_more (take n xs) item)
    ∙ ap bodies_in (ap (λ y. take n xs ++ y ∷ []) c.found-item.is ∙ sym (take_more xs n item c.loop-found-test.true))
