use Rattle.std.proofs.Common.{◌≡◌, ◌++◌, false, ap, subst, ◌∙◌}
use Rattle.std.specs.Prelude.{◌↔◌, Err, OnOk}
use Rattle.std.proofs.lemmas.Result.{on_err_weaker, on_ok_weaker}
use Rattle.zio_types.specs.Places.{SamePlaces, are_open}
use Rattle.zio_places.specs.Spaces.{are_on_tops, used}
use Rattle.zio_blocks.specs.declared.chooser.Unclaimed.TheVariants.{Taken}
use Rattle.zio_blocks.proofs.ChooserLemmas.{sound_held}
use Rattle.zio_audit.specs.Replays.{SeenReplayed}
use Rattle.zio_audit.proofs.EntryLemmas.{either_way, sound_same}
use Rattle.zio_audit.proofs.ReplayedLemmas.{kept_space}
use Rattle.zio_audit.proofs.replayed.ReplayedChooser.claim.Goals as goal

pub claim-requires : goal.claim-requires
claim-requires g c = record { inside = ap (λ (r : SeenReplayed). are_on_tops r.space.sizes c.args.places.now) c.self.view_is ∙ c.requires.inside }

pub invariant_of-self : goal.invariant_of-self
invariant_of-self g c =
    kept_space _ _ c.self.inside.space c.claim.new.self _ _ c.self.invariant
    (either_way c.claim.result
    (on_ok_weaker c.claim.result (sound_held c.claim.new.self) c.claim.ensures.held)
    (on_err_weaker c.claim.result (λ same. sound_same c.self.inside.space c.claim.new.self c.self.invariant.sound c.claim.ensures.sizes same.0) c.claim.ensures.err))
    c.claim.ensures.sizes

pub returns-clause-live : goal.returns-clause-live
returns-clause-live g c = subst (λ (r : SeenReplayed). OnOk c.claim.result (SamePlaces c.claim.new.self.live (c.args.places.now ++ r.space.live))) c.self.view_is c.claim.ensures.live

pub returns-clause-used : goal.returns-clause-used
returns-clause-used g c = subst (λ (r : SeenReplayed). OnOk c.claim.result (SamePlaces (used c.claim.new.self) (c.args.places.now ++ used r.space))) c.self.view_is c.claim.ensures.used

pub returns-clause-taken : goal.returns-clause-taken
returns-clause-taken g c = subst (λ (r : SeenReplayed). (c.claim.result ≡ Err Taken) ↔ (are_open (used r.space) c.args.places.now ≡ false)) c.self.view_is c.claim.ensures.taken

pub returns-clause-err : goal.returns-clause-err
returns-clause-err g c =
    on_err_weaker c.claim.result
    (λ same. (
      same.0 ∙ ap (λ (r : SeenReplayed). used r.space) c.self.view_is,
      same.1 ∙ ap (λ (r : SeenReplayed). r.space.live) c.self.view_is,
    )) c.claim.ensures.err

pub returns-clause-given : goal.returns-clause-given
returns-clause-given g c = ap (λ (r : SeenReplayed). r.given) c.self.view_is

pub returns-clause-sizes : goal.returns-clause-sizes
returns-clause-sizes g c = c.claim.ensures.sizes ∙ ap (λ (r : SeenReplayed). r.space.sizes) c.self.view_is
