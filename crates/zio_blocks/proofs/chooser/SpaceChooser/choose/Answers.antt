use Rattle.std.proofs.Common.{ap}
use Rattle.zio_types.specs.Choices.{taken_by}
use Rattle.zio_places.specs.Spaces.{SpaceState}
use Rattle.zio_blocks.proofs.ChooserLemmas.{held_sound, live_after, used_after}
use Rattle.zio_blocks.proofs.chooser.SpaceChooser.choose.Goals as goal

pub returns-clause-used : goal.returns-clause-used
returns-clause-used c =
    used_after c.args.self.now c.reserve.new.self c.take.new.self (taken_by c.take.result)
    (ap (λ (s : SpaceState). s.live) c.in_ok-reserve.ensures.ok) (ap (λ (s : SpaceState). s.pending) c.in_ok-reserve.ensures.ok)
    c.take.ensures.pending c.take.ensures.live

pub returns-clause-live : goal.returns-clause-live
returns-clause-live c =
    live_after c.args.self.now c.reserve.new.self c.take.new.self (taken_by c.take.result)
    (ap (λ (s : SpaceState). s.live) c.in_ok-reserve.ensures.ok) c.take.ensures.live

pub returns-clause-held : goal.returns-clause-held
returns-clause-held c = held_sound c.take.new.self c.take.ensures.sound
