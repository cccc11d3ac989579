-- Bytes written over others.
use Rattle.std.specs.Prelude.{ℕ, ◌+◌, List, ◌++◌, length, take, drop}

-- the bytes, with others in the place of as many
abbrev pub overwritten : List ℕ → ℕ → List ℕ → List ℕ
overwritten image at bytes = take at image ++ bytes ++ drop (at + length bytes) image
