use Rattle.zio_cksum.proofs.SplitLemmas.{total_law, whole_law, falling_law, smaller_law, few_law}
use Rattle.zio_cksum.proofs.laws.members_add_up.Goals as goal

pub returns : goal.returns
returns c = record {
  total = total_law;
  whole_sectors = whole_law;
  falling = falling_law;
  smaller = smaller_law;
  few = few_law;
}
