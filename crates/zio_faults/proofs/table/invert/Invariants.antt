use Rattle.std.proofs.Common.{◌≡◌, ◌++◌, map, take, drop}
use Rattle.zio_faults.specs.Hits.{inverted}
use Rattle.zio_faults.proofs.table.invert.Given as goal

-- the bytes so far are inverted
abbrev pub invariant-loop-byte : goal.invariant-loop-byte
invariant-loop-byte l = l.bytes ≡ map inverted (take l.byte-index l.initial.bytes) ++ drop l.byte-index l.initial.bytes
