-- What a contract sees of the space, and the words of its calls.
use Rattle.std.specs.Prelude.{◌≡◌, ℕ, List, ◌++◌, Bool, true, ◌&&◌}
use Rattle.std.specs.List.{list_all}
use Rattle.zio_types.specs.declared.place.Place.{Place}
use Rattle.zio_types.specs.declared.place.TopSize.{TopSize}
use Rattle.zio_types.specs.Places.{is_inside, is_aligned, is_free, are_apart}
use Rattle.zio_types.specs.Choices.{Choice}

pub record SpaceState : Type 0 where
  -- the sectors and the unit of each top
  pub sizes : List TopSize
  -- taken or claimed, and not given back, by top and sector
  pub live : List Place
  -- given back in this round, in that order
  pub pending : List Place
  -- the entries since the journal was last taken out
  pub entries : List Choice
  -- how many entries there is room for
  pub spare : ℕ

-- the places whose sectors aren't free
abbrev pub used : SpaceState → List Place
used st = st.live ++ st.pending

-- the place lies inside its top, and its sectors are whole units
abbrev pub is_on_top : List TopSize → Place → Bool
is_on_top sizes p = is_inside sizes p && is_aligned sizes p

abbrev pub are_on_tops : List TopSize → List Place → Bool
are_on_tops sizes places = list_all (is_on_top sizes) places

-- the place lies on its top, and none of its sectors is used
abbrev pub is_open : SpaceState → Place → Bool
is_open st p = is_on_top st.sizes p && is_free (used st) p

-- the live and the pending places lie inside their tops on whole units, and no two of them meet
pub record IsSound (st : SpaceState) : Type 0 where
  pub inside : are_on_tops st.sizes (used st) ≡ true
  pub apart : are_apart (used st) ≡ true
