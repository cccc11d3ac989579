use Rattle.std.proofs.Common.{length, map, ap, sym, ◌∙◌, ◌++◌}
use Rattle.zio_cksum.specs.Blocks.{read_place, spot_in}
use Rattle.zio_cksum.specs.Frames.{spots_of}
use Rattle.zio_mirror.specs.Plans.{answers_of, children, place_of, read_copy}
use Rattle.zio_mirror.proofs.PlanLemmas.{step_of_good, to_repair_good}
use Rattle.zio_mirror.proofs.ChildLemmas.{copies_bad, copies_good}
use Rattle.zio_mirror.proofs.laws.a_pass_repairs_what_plans_do.Goals as goal

pub returns : goal.returns
returns c = record {
  good = λ s retry good images len places bytes e.
      let h = copies_good s retry good images len places bytes e in
      let cs = children (length places) in
      let answers = answers_of (read_copy s retry good images len places) cs in (
        h.child,
        step_of_good cs answers h.child h.is_good,
        h.gave,
        h.rewritten
            ∙ ap (λ cs. spots_of s (map (place_of places) cs) ++ map (spot_in (place_of places h.child)) (read_place s retry good images len (place_of places h.child)).failed)
            (sym (to_repair_good cs answers h.child h.is_good)),
      );
  bad = copies_bad;
}
