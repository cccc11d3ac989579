-- The bytes of a write's body.
use Rattle.std.specs.Prelude.{ℕ, zero, suc, ◌+◌, ◌*◌, ◌/◌, ◌%◌, ◌^◌, List, [], ◌++◌, take, replicate}
use Rattle.std.specs.Int.{w64, to_le_bytes}
use Rattle.zio_script.specs.declared.script.Body.{Body}
use Rattle.zio_script.specs.declared.script.Body.TheVariants.{Hex, Fill, Seq}

-- one step of the generator, whose state is a number below 2 ^ 64
abbrev pub next_state : ℕ → ℕ
next_state state = (state * 6364136223846793005 + 1442695040888963407) % 2 ^ 64

-- the bytes of the next so many values from this state, eight each, the lowest first
unfoldable pub generated : ℕ → ℕ → List ℕ
generated state zero = []
generated state (suc n) = to_le_bytes w64 (next_state state) ++ generated (next_state state) n

-- the first bytes that the generator gives from a seed
unfoldable pub sequence : ℕ → ℕ → List ℕ
sequence seed len = take len (generated seed (len / 8 + 1))

-- what the body says, without padding
abbrev pub body_of : Body → List ℕ
body_of (Hex bytes) = bytes
body_of (Fill byte len) = replicate len byte
body_of (Seq seed len) = sequence seed len
