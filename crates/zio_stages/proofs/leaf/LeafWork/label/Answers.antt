use Rattle.std.proofs.Common.{rules}
use Rattle.zio_stages.proofs.leaf.LeafWork.label.Goals as goal

pub pack-requires : goal.pack-requires
pack-requires c = record {
  request = c.args.self.now.origin.part.few;
  place = search rules;
  image = search rules;
  attempt = c.args.self.now.origin.part.attempts;
  sectors = c.sectors_in.ensures.room;
}
