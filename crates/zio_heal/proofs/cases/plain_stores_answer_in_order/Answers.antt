use Rattle.zio_heal.proofs.StoreCasesProofs.{children_make_a_front, faults_change_nothing, freed_name_is_gone, freed_name_is_written, missing_comes_first, names_at_the_end, padded_to_a_sector, readers_share_a_name, taken_name_stays, tree_fails_whole, trees_fail_alone, whole_sectors_stay}
use Rattle.zio_heal.proofs.cases.plain_stores_answer_in_order.Goals as goal

pub returns : goal.returns
returns c = record {
  padded_to_a_sector = padded_to_a_sector;
  whole_sectors_stay = whole_sectors_stay;
  readers_share_a_name = readers_share_a_name;
  freed_name_is_gone = freed_name_is_gone;
  freed_name_is_written = freed_name_is_written;
  taken_name_stays = taken_name_stays;
  names_at_the_end = names_at_the_end;
  tree_fails_whole = tree_fails_whole;
  missing_comes_first = missing_comes_first;
  trees_fail_alone = trees_fail_alone;
  children_make_a_front = children_make_a_front;
  faults_change_nothing = faults_change_nothing;
}
