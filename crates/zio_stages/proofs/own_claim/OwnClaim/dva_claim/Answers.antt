use Rattle.std.proofs.Common.{List, [], ◌∷◌, Err, true, false, refl, ap, subst, ◌∙◌}
use Rattle.zio_types.specs.declared.place.Place.{Place}
use Rattle.zio_gang.specs.Trees.{tree_places}
use Rattle.zio_exchange.specs.SpaceCalls.{Claimed}
use Rattle.zio_stages.specs.declared.own_claim.ClaimStep.TheVariants.{Refused, Taken as TakenStep}
use Rattle.zio_stages.specs.declared.own_claim.OwnClaim.{OwnClaim}
use Rattle.zio_stages.proofs.OwnClaimLemmas.{claim_takes}
use Rattle.zio_stages.proofs.own_claim.OwnClaim.dva_claim.Goals as goal

pub returns-in-Ok-clause-does : goal.returns-in-Ok-clause-does
returns-in-Ok-clause-does g c =
    let old = c.args.self.now in
    let tree = c.in-Some.tree in
    let new : OwnClaim = record { block = old.block; step = TakenStep } in (
      Claimed (tree_places tree) true ∷ [],
      subst (λ (ps : List Place). g.S.Services.made c.args.services.now (Claimed ps true ∷ []) c.claim.new.self) (c.as_slice.ensures ∙ c.in_ok-places.ensures) c.in-Ok.ensures.free,
      λ t tops family pointer front_asked front st goes h. claim_takes t tops old new tree family pointer front_asked front st true c.in-Some.is c.in-Found.is refl refl goes h,
      tt,
    )

pub returns-in-Err-Taken-clause-does : goal.returns-in-Err-Taken-clause-does
returns-in-Err-Taken-clause-does g c =
    let old = c.args.self.now in
    let tree = c.in-Some.tree in
    let new : OwnClaim = record { block = old.block; step = Refused } in (
      Claimed (tree_places tree) false ∷ [],
      subst (λ (ps : List Place). g.S.Services.made c.args.services.now (Claimed ps false ∷ []) c.claim.new.self) (c.as_slice.ensures ∙ c.in_ok-places.ensures)
          (c.in-Err-Taken.ensures.taken (ap (λ e. Err e) c.in-Err-Taken.field-0-is)),
      λ t tops family pointer front_asked front st goes h. claim_takes t tops old new tree family pointer front_asked front st false c.in-Some.is c.in-Found.is refl refl goes h,
      tt,
    )
