use Rattle.std.proofs.Common.{refl}
use Rattle.zio_blkptr.proofs.PointerLemmas.{pointer_of-spelling, spelling-pointer, FitsTypes-pointer, one_pointer, length-spelling}
use Rattle.zio_blkptr.proofs.laws.each_pointer_has_one_spelling.Goals as goal

pub returns : goal.returns
returns c = record {
  read_back = pointer_of-spelling;
  spelled = spelling-pointer;
  types = FitsTypes-pointer;
  one_pointer = one_pointer;
  length = length-spelling;
  not_zeros = refl;
}
