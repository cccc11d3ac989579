use Rattle.std.proofs.Common.{◌<◌, length, take, sym, ◌∙◌, arith}
use Rattle.std.proofs.lemmas.List.{length-take-le}
use Rattle.zio_places.proofs.FlagLemmas.{runs_more_free, runs_more_used, free_run_ends, back_run-le}
use Rattle.zio_places.proofs.word.Word.first_run.Goals as goal
use Rattle.zio_places.proofs.word.Word.first_run.Goals.{then-is_free+else-run-count, else-is_free}

pub overflow_sub-result : goal.overflow_sub-result
overflow_sub-result c =
    let taken = length-take-le c.loop-at.at c.args.self.now (omega arith) in
    omega (arith, c.loop-at.invariant.so_far, taken, back_run-le (take c.loop-at.at c.args.self.now))

pub returns-then-run-count : goal.returns-then-run-count
returns-then-run-count c =
    free_run_ends c.args.self.now c.loop-at.at c.args.count (omega arith) (sym c.is_free.ensures ∙ c.if-is_free.true) (omega (arith, c.loop-at.invariant.so_far))

pub loop-at-preserved : goal.loop-at-preserved
loop-at-preserved c =
    let here : c.loop-at.at < length c.args.self.now = omega arith in
    elim c.if-is_free.branch [
      | then-is_free+else-run-count w ↦
          let more = runs_more_free c.args.self.now c.loop-at.at here (sym c.is_free.ensures ∙ w.if-is_free.true) in
          record { so_far = omega (arith, more.0, w.run-is, c.loop-at.invariant.so_far); shorter = omega (arith, w.run-is, w.if-run-count.false, c.loop-at.invariant.shorter); none_yet = omega (arith, more.1, c.loop-at.invariant.so_far, w.if-run-count.false, c.loop-at.invariant.shorter, c.loop-at.invariant.none_yet) }
      | else-is_free w ↦
          let more = runs_more_used c.args.self.now c.loop-at.at here (sym c.is_free.ensures ∙ w.if-is_free.false) in
          record { so_far = omega (arith, more.0, w.run-is); shorter = omega (arith, w.run-is, c.loop-at.invariant.shorter); none_yet = omega (arith, more.1, c.loop-at.invariant.none_yet) }
    ]
