use Rattle.std.proofs.Common.{sym, ap, subst, ◌∙◌}
use Rattle.std.specs.Prelude.{Contains}
use Rattle.std.specs.List.{AllByRecursion}
use Rattle.zio_types.specs.Places.{SamePlaces}
use Rattle.zio_places.specs.Spaces.{used}
use Rattle.zio_blocks.specs.Choosers.{AreHeld, AreLeft}
use Rattle.zio_blocks.proofs.ChooserLemmas.{held_sound, sound_held}
use Rattle.zio_audit.specs.Replays.{SeenReplayed}
use Rattle.zio_audit.proofs.ReplayedLemmas.{kept_space}
use Rattle.zio_audit.proofs.replayed.ReplayedChooser.give_back.Goals as goal

pub give_back-requires-clause-live : goal.give_back-requires-clause-live
give_back-requires-clause-live g c =
    subst (λ (r : SeenReplayed). AllByRecursion (Contains r.space.live) c.args.places.now) (sym c.self.view_is) c.requires.live

pub invariant_of-self : goal.invariant_of-self
invariant_of-self g c =
    kept_space _ _ c.self.inside.space c.give_back.new.self _ _ c.self.invariant
    (sound_held c.give_back.new.self (c.give_back.ensures.held (held_sound c.self.inside.space c.self.invariant.sound))) c.give_back.ensures.sizes

pub returns-clause-live : goal.returns-clause-live
returns-clause-live g c = subst (λ (r : SeenReplayed). AreLeft r.space.live c.args.places.now c.give_back.new.self.live) c.self.view_is c.give_back.ensures.live

pub returns-clause-used : goal.returns-clause-used
returns-clause-used g c = subst (λ (r : SeenReplayed). SamePlaces (used c.give_back.new.self) (used r.space)) c.self.view_is c.give_back.ensures.used

pub returns-clause-held : goal.returns-clause-held
returns-clause-held g c =
    subst (λ (r : SeenReplayed). AreHeld r.space.sizes (used r.space) r.space.live → AreHeld c.give_back.new.self.sizes (used c.give_back.new.self) c.give_back.new.self.live) c.self.view_is
    c.give_back.ensures.held

pub returns-clause-given : goal.returns-clause-given
returns-clause-given g c = ap (λ (r : SeenReplayed). r.given) c.self.view_is

pub returns-clause-sizes : goal.returns-clause-sizes
returns-clause-sizes g c = c.give_back.ensures.sizes ∙ ap (λ (r : SeenReplayed). r.space.sizes) c.self.view_is
