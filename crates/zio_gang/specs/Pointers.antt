-- Pointers of a write's children.
use Rattle.std.specs.Prelude.{Option, IfSome, IsTrue}
use Rattle.zio_blkptr.specs.declared.pointer.Bp.{Bp}
use Rattle.zio_blkptr.specs.Pointers.{valid}

-- a child without a place has no pointer
abbrev pub IsNoneOrValid : Option Bp → Type 0
IsNoneOrValid pointer = IfSome pointer (λ bp. IsTrue (valid bp))
