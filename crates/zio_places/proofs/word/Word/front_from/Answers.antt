use Rattle.std.proofs.Common.{sym, ◌∙◌, arith}
use Rattle.zio_places.proofs.FlagLemmas.{front_run-is}
use Rattle.zio_places.proofs.word.Word.front_from.Goals as goal
use Rattle.zio_places.proofs.word.Word.front_from.Goals.{then-loop-end-test+else-is_free, else-loop-end-test}

pub returns : goal.returns
returns c =
    let i = c.loop-end.invariant in
    front_run-is c.args.self.now c.args.at c.loop-end.end i.from i.within i.free
    (λ inside.
    elim c.loop-end-test.branch [
      | then-loop-end-test+else-is_free w ↦ sym w.is_free.ensures ∙ w.if-is_free.false
      | else-loop-end-test w ↦ absurd (omega (arith, inside, w.loop-end-test.false, c.len.ensures.size))
    ])
