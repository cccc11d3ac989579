-- The bits by which a request goes again.
use Rattle.std.specs.Prelude.{Bool, false, ◌||◌}
use Rattle.zio_types.specs.declared.request.Bits.{Bits}

-- neither: the request doesn't go again
abbrev pub no_bits : Bits
no_bits = record { now = false; suspend = false }

-- each bit that one of the two has
abbrev pub joined_bits : Bits → Bits → Bits
joined_bits a b = record { now = a.now || b.now; suspend = a.suspend || b.suspend }

-- one of the bits is set: it goes again
abbrev pub has_bits : Bits → Bool
has_bits b = b.now || b.suspend
