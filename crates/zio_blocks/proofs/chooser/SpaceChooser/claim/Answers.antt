use Rattle.std.proofs.Common.{ap, refl}
use Rattle.zio_places.specs.Spaces.{SpaceState}
use Rattle.zio_blocks.proofs.ChooserLemmas.{held_sound, live_after, used_after}
use Rattle.zio_blocks.proofs.chooser.SpaceChooser.claim.Goals as goal

pub returns-in-Ok-clause-live : goal.returns-in-Ok-clause-live
returns-in-Ok-clause-live c =
    live_after c.args.self.now c.args.self.now c.claim.new.self c.args.places.now refl (ap (λ (s : SpaceState). s.live) c.in-Ok.ensures.ok)

pub returns-in-Ok-clause-used : goal.returns-in-Ok-clause-used
returns-in-Ok-clause-used c =
    used_after c.args.self.now c.args.self.now c.claim.new.self c.args.places.now refl refl (ap (λ (s : SpaceState). s.pending) c.in-Ok.ensures.ok)
    (ap (λ (s : SpaceState). s.live) c.in-Ok.ensures.ok)

pub returns-in-Ok-clause-held : goal.returns-in-Ok-clause-held
returns-in-Ok-clause-held c = held_sound c.claim.new.self c.claim.ensures.sound
