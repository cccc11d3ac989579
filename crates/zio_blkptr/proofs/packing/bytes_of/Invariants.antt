use Rattle.std.proofs.Common.{◌≡◌, ◌*◌, take, length}
use Rattle.std.specs.List.{flat_map}
use Rattle.zio_blkptr.specs.Pointers.{word}
use Rattle.zio_blkptr.proofs.packing.bytes_of.Given as goal

abbrev pub invariant-loop-i : goal.invariant-loop-i
invariant-loop-i l = (length l.bytes ≡ 128) × (take (8 * l.i) l.bytes ≡ flat_map word (take l.i l.words))
