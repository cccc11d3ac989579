use Rattle.std.proofs.Common.{ap, ◌∙◌}
use Rattle.zio_cksum.specs.Blocks.{blame}
use Rattle.zio_mirror.specs.declared.plan.PlanStep.TheVariants.{Bad}
use Rattle.zio_mirror.specs.Plans.{answers_of}
use Rattle.zio_mirror.proofs.PlanLemmas.{length-answers_of, good_of_reads, bad_of_reads, repairs_of_reads, step_of_good, step_of_bad, to_repair_good}
use Rattle.zio_mirror.proofs.laws.plans_end_as_reads_do.Goals as goal

pub returns : goal.returns
returns c = record {
  ends = length-answers_of;
  good = λ read order bytes e.
      let g = good_of_reads read order bytes e in (g.0, step_of_good order (answers_of read order) g.0 g.1, g.2);
  bad = λ read order e.
      let b = bad_of_reads read order e in
      step_of_bad order (answers_of read order) b.0 b.1 ∙ ap (λ errors. Bad (blame errors)) b.2;
  repairs = λ read order bytes e.
      let g = good_of_reads read order bytes e in
      to_repair_good order (answers_of read order) g.0 g.1 ∙ repairs_of_reads read order bytes e;
}
