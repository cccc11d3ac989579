use Rattle.std.proofs.Common.{true, arith}
use Rattle.zio_disks.proofs.DiskLemmas.{met_ends}
use Rattle.zio_disks.proofs.leaf.write_leaf.Goals as goal

pub write_faulty-requires-clause-to : goal.write_faulty-requires-clause-to
write_faulty-requires-clause-to g c =
    let ends = met_ends c.args.setting.now c.args.retry true c.args.spot.now c.in-Some.hit c.in-Some.ensures in
    omega arith
