use Rattle.std.proofs.Common.{◌≡◌, ◌++◌, string_bytes, take}
use Rattle.zio_markup.specs.Escapes.{escaped}
use Rattle.zio_markup.proofs.markup.put_outside.Given as goal

abbrev pub invariant-loop-byte : goal.invariant-loop-byte
invariant-loop-byte l = string_bytes l.text ≡ string_bytes l.initial.text ++ escaped (take l.byte-index l.outside)
