use Rattle.zio_heal.proofs.PoolCasesProofs.{found_is_fine, four_arent, half_a_sector_isnt, large_may_be_refused, leaf_twice_isnt, mirror_is_a_pool, no_birth_isnt, no_leaf_isnt, none_isnt, nothing_isnt, odd_unit_isnt, one_sector_is_a_size, shared_leaf_isnt, short_leaf_isnt, small_may_not, three_copies_are_written, too_large_isnt}
use Rattle.zio_heal.proofs.cases.pools_have_leaves_of_their_own.Goals as goal

pub returns : goal.returns
returns c = record {
  mirror_is_a_pool = mirror_is_a_pool;
  shared_leaf_isnt = shared_leaf_isnt;
  leaf_twice_isnt = leaf_twice_isnt;
  short_leaf_isnt = short_leaf_isnt;
  odd_unit_isnt = odd_unit_isnt;
  no_leaf_isnt = no_leaf_isnt;
  one_sector_is_a_size = one_sector_is_a_size;
  nothing_isnt = nothing_isnt;
  half_a_sector_isnt = half_a_sector_isnt;
  too_large_isnt = too_large_isnt;
  three_copies_are_written = three_copies_are_written;
  four_arent = four_arent;
  none_isnt = none_isnt;
  no_birth_isnt = no_birth_isnt;
  found_is_fine = found_is_fine;
  large_may_be_refused = large_may_be_refused;
  small_may_not = small_may_not;
}
