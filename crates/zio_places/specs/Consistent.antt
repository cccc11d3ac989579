-- What holds of the fields of a space.
use Rattle.std.specs.Prelude.{◌≡◌, ℕ, ◌+◌, ◌*◌, ◌^◌, ◌<◌, ◌≤◌, List, ◌++◌, length, All}
use Rattle.zio_types.specs.declared.place.Place.{Place}
use Rattle.zio_places.specs.Tables.{TopState, sizes_of, live_of, AreBitmapsOf, HaveEqualLengths, AreAligned}

pub record IsConsistent (tops : List TopState) (pending : List Place)
    (live spare pending_room entries entries_room : ℕ) : Type 0 where
  pub few : length tops < 2 ^ 32
  pub even : HaveEqualLengths tops
  -- a sector is used by one live or pending place, or free
  pub count : AreBitmapsOf (live_of tops ++ pending) tops
  pub aligned : AreAligned (sizes_of tops) (live_of tops ++ pending)
  pub filled : All (λ p. 0 < p.sectors) pending
  pub live_count : live ≡ length (live_of tops)
  -- all that may be given back before the next reserve fits
  pub pending_fit : length pending + live + 3 * spare ≤ pending_room
  pub entries_fit : entries + spare ≤ entries_room
