-- A word of flags: the bit k is the flag of the sector k.
use Rattle.std.specs.Prelude.{ℕ, List, map, Bool, ◌==◌}
use Rattle.std.specs.List.{range_with_len}
use Rattle.std.specs.Int.{bit_at}

abbrev pub flags_of : ℕ → ℕ → List Bool
flags_of bits len = map (λ k. bit_at bits k == 1) (range_with_len 0 len)
