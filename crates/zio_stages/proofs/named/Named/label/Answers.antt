use Rattle.std.proofs.Common.{arith}
use Rattle.zio_stages.proofs.named.Named.label.Goals as goal

pub pack-requires : goal.pack-requires
pack-requires c = record {
  request = c.args.self.now.few;
  place = omega arith;
  image = omega arith;
  attempt = c.args.self.now.attempts;
  sectors = c.sectors_in.ensures.room;
}
