use Rattle.std.proofs.Common.{subst}
use Rattle.zio_places.specs.Spaces.{IsSound}
use Rattle.zio_places.proofs.SpaceLemmas.{sound-counted}
use Rattle.zio_places.proofs.space.Space.is_live.Goals as goal

pub returns-clause-sound : goal.returns-clause-sound
returns-clause-sound c = subst IsSound c.self.view_is (sound-counted _ _ _ _ _ _ _ _ c.self.invariant)
