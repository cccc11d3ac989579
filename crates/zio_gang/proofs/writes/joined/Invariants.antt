use Rattle.std.proofs.Common.{◌≡◌, ◌*◌, length, take}
use Rattle.zio_script.specs.declared.limits.TheConstants.{POINTER_SIZE}
use Rattle.std.specs.List.{flat_map}
use Rattle.zio_cksum.specs.Headers.{member_bytes}
use Rattle.zio_gang.proofs.writes.joined.Given as goal

abbrev pub invariant-loop-pointer : goal.invariant-loop-pointer
invariant-loop-pointer l =
    (l.bytes ≡ flat_map member_bytes (take l.pointer-index l.pointers)) × (length l.bytes ≡ POINTER_SIZE * l.pointer-index)
