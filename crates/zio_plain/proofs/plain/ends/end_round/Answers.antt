use Rattle.std.proofs.Common.{List, sym, subst, ◌∙◌}
use Rattle.zio_types.specs.declared.place.Place.{Place}
use Rattle.zio_blocks.specs.Choosers.{AreLeft}
use Rattle.zio_plain.proofs.plain.ends.end_round.Goals as goal

pub returns-clause-live : goal.returns-clause-live
returns-clause-live g c =
    subst (λ (ps : List Place). AreLeft (g.C.Chooser.live c.args.chooser.now) ps (g.C.Chooser.live c.end_round.new.self)) (c.as_slice.ensures ∙ c.in_ok-places.ensures)
    (subst (λ (ps : List Place). AreLeft (g.C.Chooser.live c.args.chooser.now) c.as_slice.result.now ps) (sym c.end_round.ensures.live) c.give_back.ensures.live)
