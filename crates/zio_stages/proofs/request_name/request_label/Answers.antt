use Rattle.std.proofs.Common.{rules, arith}
use Rattle.zio_stages.proofs.request_name.request_label.Goals as goal

pub pack-requires : goal.pack-requires
pack-requires c = record {
  request = search rules;
  place = omega arith;
  image = omega arith;
  attempt = search rules;
  sectors = c.sectors_in.ensures.room;
}
