use Rattle.std.proofs.Common.{subst}
use Rattle.std.specs.List.{AllByRecursion}
use Rattle.zio_trace.specs.Labels.{labelled}
use Rattle.zio_trace.specs.Plans.{plan}
use Rattle.zio_trace.specs.Underway.{IsFlying}
use Rattle.zio_parts.proofs.PartTaskLemmas.{asked_behind_parts}
use Rattle.zio_parts.proofs.part_laws.what_is_asked_behind_parts_is_known.Goals as goal

pub returns : goal.returns
returns c = λ w before s x others op h is part parts asks o ways agrees.
    let flying : IsFlying w.terms s.deeds x = (subst (AllByRecursion (IsFlying w.terms s.deeds)) is h.flying).0 in
    asked_behind_parts w.terms o ways x.op.at (labelled x.op.at 0 (plan w.terms x.op.op)) x.rest x.outs x.next op (flying.left part o ways agrees) parts asks
