-- What stays of a space on which entries are judged.
use Rattle.std.specs.Prelude.{◌≡◌}
use Rattle.zio_places.specs.Spaces.{IsSound, SpaceState}

-- it stays sound, and keeps its tops
pub record Keeps (old new : SpaceState) : Type 0 where
  pub sizes : new.sizes ≡ old.sizes
  pub sound : IsSound old → IsSound new
