use Rattle.std.proofs.Common.{rules}
use Rattle.std.proofs.lemmas.List.Sorted.{answers_always}
use Rattle.zio_script.proofs.OpenBatchLemmas.{position_is}
use Rattle.zio_script.proofs.open_batch.OpenBatch.position.Goals as goal

-- the closure gives a mark's number, and the slice is the marks
pub returns : goal.returns
returns c =
    let facts = c.binary_search_by_key.ensures in
    let by_number = facts.position (λ mark. mark.number) (answers_always _ _ _ (λ f a r g called. search rules)) in
    λ apart batch is. position_is apart batch c.args.self.now c.args.number _ is (rw (← c.deref.ensures.value) facts.bound) (rw (← c.deref.ensures.value) by_number)
