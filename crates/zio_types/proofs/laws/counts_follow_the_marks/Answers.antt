use Rattle.zio_types.proofs.MachineLemmas.{count_of-marked_at, count_of-marked_other, count_of-new_child}
use Rattle.zio_types.proofs.laws.counts_follow_the_marks.Goals as goal

pub returns : goal.returns
returns c = record {
  falls = count_of-marked_at;
  others = count_of-marked_other;
  rises = count_of-new_child;
}
