use Rattle.std.proofs.Common.{◌≡◌, List, true, sym, subst, ◌∙◌}
use Rattle.zio_types.specs.declared.place.Place.{Place}
use Rattle.zio_types.specs.Places.{are_open}
use Rattle.zio_places.specs.Spaces.{are_on_tops}
use Rattle.zio_blocks.specs.Claims.{AreTaken}
use Rattle.zio_blocks.proofs.ClaimLemmas.{passes, tree_on_tops}
use Rattle.zio_blocks.proofs.claim.take_places.Goals as goal

pub claim-requires : goal.claim-requires
claim-requires g c =
    let sizes = g.C.Chooser.sizes c.args.chooser.now in
    record {
      inside = subst (λ (ps : List Place). are_on_tops sizes ps ≡ true) (sym (c.as_slice.ensures ∙ c.in-Ok.ensures)) (tree_on_tops sizes c.args.tree c.requires.fitting);
    }

pub returns-in-Ok-claim-clause-claimed : goal.returns-in-Ok-claim-clause-claimed
returns-in-Ok-claim-clause-claimed g c =
    let places = c.as_slice.result.now in
    let used = g.C.Chooser.used c.args.chooser.now in
    subst (λ (ps : List Place). AreTaken ps used (g.C.Chooser.live c.args.chooser.now) (g.C.Chooser.used c.claim.new.self) (g.C.Chooser.live c.claim.new.self))
    (c.as_slice.ensures ∙ c.in-Ok.ensures)
    (record {
      were_open = passes (are_open used places) (λ no. let f = c.in-Ok-claim.ensures.taken.1 no in cc);
      used = c.in-Ok-claim.ensures.used;
      live = c.in-Ok-claim.ensures.live;
    })
