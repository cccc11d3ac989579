use Rattle.zio_cksum.proofs.ReadLemmas.{repairs_law, reads_law, without_law, at_most_law, size_law, good_law}
use Rattle.zio_cksum.proofs.laws.reads_keep_the_rest.Goals as goal

pub returns : goal.returns
returns c = record {
  repairs = repairs_law;
  reads = reads_law;
  without_repair = without_law;
  at_most = at_most_law;
  size = size_law;
  good = good_law;
}
