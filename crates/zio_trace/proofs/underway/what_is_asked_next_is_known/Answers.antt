use Rattle.std.proofs.Common.{[], subst}
use Rattle.std.specs.List.{AllByRecursion}
use Rattle.zio_trace.specs.Labels.{labelled}
use Rattle.zio_trace.specs.Plans.{plan}
use Rattle.zio_trace.specs.Underway.{IsFlying, plan_each}
use Rattle.zio_trace.proofs.UnderwayAsks.{asked_next}
use Rattle.zio_trace.proofs.underway.what_is_asked_next_is_known.Goals as goal

pub returns : goal.returns
returns c = record {
  node = λ w before s x others op h is part asks o ways agrees.
      let flying : IsFlying w.terms s.deeds x = (subst (AllByRecursion (IsFlying w.terms s.deeds)) is h.flying).0 in
      asked_next o x.op.at (labelled x.op.at 0 (plan w.terms x.op.op)) x.rest x.outs x.next op (flying.left part o ways agrees) asks;
  task = λ w before s op h asks o ways agrees. asked_next o [] (labelled [] 0 (plan_each w.tasks)) s.root s.outs s.next op (h.root o ways agrees) asks;
}
