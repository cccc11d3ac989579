use Rattle.std.proofs.Common.{◌++◌, List, ap, ◌∙◌}
use Rattle.std.proofs.lemmas.List.{append-nil}
use Rattle.zio_types.specs.declared.place.Place.{Place}
use Rattle.zio_places.specs.Spaces.{used}
use Rattle.zio_cksum.proofs.PlaceSets.{SamePlaces-equal}
use Rattle.zio_blocks.proofs.ChooserLemmas.{held_sound}
use Rattle.zio_audit.proofs.replayed.ReplayedChooser.end_round.Goals as goal

pub returns-clause-held : goal.returns-clause-held
returns-clause-held g c = held_sound c.close_round.new.self c.close_round.ensures.sound

pub returns-clause-used : goal.returns-clause-used
returns-clause-used g c =
    SamePlaces-equal (used c.close_round.new.self) c.close_round.new.self.live
    (ap (λ (ps : List Place). c.close_round.new.self.live ++ ps) c.close_round.ensures.pending ∙ append-nil c.close_round.new.self.live)
