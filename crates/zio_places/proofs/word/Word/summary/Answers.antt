use Rattle.std.proofs.Common.{replicate, ap, ◌∙◌}
use Rattle.zio_places.specs.Flags.{flag_at, summary_of}
use Rattle.zio_places.proofs.FlagLemmas.{summary_back-le, summary_front-le, summary_more}
use Rattle.zio_places.proofs.word.Word.summary.Goals as goal

pub join-summary-requires-clause-back : goal.join-summary-requires-clause-back
join-summary-requires-clause-back c = summary_back-le _ _ c.loop-at.invariant.so_far

pub join-summary-requires-clause-front : goal.join-summary-requires-clause-front
join-summary-requires-clause-front c = summary_front-le _ _ c.of_run.ensures

pub loop-at-preserved : goal.loop-at-preserved
loop-at-preserved c =
    record {
      within = c.run_from-run.ensures.same.fits;
      so_far =
          summary_more c.args.self.now c.loop-at.at c.run_from-run.result (flag_at c.args.self.now c.loop-at.at) c.join-summary.result c.loop-at.summary c.of_run.result c.run_from-run.ensures.same c.join-summary.ensures
          c.loop-at.invariant.so_far
          (c.of_run.ensures ∙ ap (λ n. summary_of (replicate n c.is_free.result)) c.from.ensures ∙ ap (λ b. summary_of (replicate c.run_from-run.result b)) c.is_free.ensures);
    }
