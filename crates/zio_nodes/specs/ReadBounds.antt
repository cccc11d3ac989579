-- How many bodies a block has at most.
use Rattle.std.specs.Prelude.{ℕ}

-- three below each header, over eight levels
abbrev pub bodies_max : ℕ
bodies_max = 6561
