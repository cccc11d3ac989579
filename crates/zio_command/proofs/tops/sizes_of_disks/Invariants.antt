use Rattle.std.proofs.Common.{◌≡◌, map, take}
use Rattle.zio_command.proofs.tops.sizes_of_disks.Given as goal

abbrev pub invariant-loop-disk : goal.invariant-loop-disk
invariant-loop-disk g l = l.sizes ≡ map g.D.Disk.bytes (take l.disk-index l.disks)
