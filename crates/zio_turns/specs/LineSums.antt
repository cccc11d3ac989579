-- Numbers at places, and sums of them laid out as a heap: each node is the sum of the two below it.
use Rattle.std.specs.Prelude.{◌≡◌, ℕ, zero, suc, ◌+◌, ◌*◌, ◌/◌, ◌<◌, List, drop, length, slice_index}
use Rattle.zio_types.specs.Totals.{total}

abbrev pub sum_of : List ℕ → ℕ
sum_of ns = total (λ n. n) ns

-- 1, 2, 4, 8, ..
abbrev pub width : ℕ → ℕ
width zero = 1
width (suc h) = width h + width h

-- how many places there may be: 0, 1, 2, 4, 8, ..
abbrev pub size : ℕ → ℕ
size zero = 0
size (suc h) = width h

abbrev pub IsSize : ℕ → Type 0
IsSize n = (h : ℕ) × (n ≡ size h)

-- the places are the last half of the nodes
abbrev pub places_of : List ℕ → List ℕ
places_of nodes = drop (length nodes / 2) nodes

pub record AreSums (nodes : List ℕ) : Type 0 where
  pub halves : length nodes ≡ 2 * (length nodes / 2)
  pub sized : IsSize (length nodes / 2)
  pub sums : (i : ℕ) → 0 < i → i < length nodes / 2 → slice_index nodes i ≡ slice_index nodes (2 * i) + slice_index nodes (2 * i + 1)
