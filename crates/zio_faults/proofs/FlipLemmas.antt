-- Inverting bytes one after another.
use Rattle.std.proofs.Common.{◌≡◌, ℕ, ◌+◌, ◌-◌, ◌<◌, List, ◌++◌, map, take, drop, length, get_or, set}
use Rattle.std.proofs.lemmas.List.{get_or_default}
use Rattle.std.proofs.lemmas.List.Edits.{map_over_more}
use Rattle.zio_faults.specs.Hits.{inverted}

-- one more byte is inverted
pub invert_more : (old now : List ℕ) (i : ℕ) → i < length old → i < length now → now ≡ map inverted (take i old) ++ drop i old →
    set now i (255 - get_or now i 0) ≡ map inverted (take (i + 1) old) ++ drop (i + 1) old
invert_more old now i below here h = map_over_more inverted old now i (get_or now i 0) below h (get_or_default now i 0 (get_or now i 0) here)
