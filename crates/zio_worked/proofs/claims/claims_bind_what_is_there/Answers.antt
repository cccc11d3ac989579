use Rattle.zio_worked.proofs.ClaimCases.{claimed_block_is_read, wrong_sum_is_found_by_the_read, places_that_meet_are_refused, used_place_is_refused, place_outside_its_top_is_invalid, zeros_are_no_pointer, bound_name_is_not_claimed_again, plain_claim_reads_nothing, claimed_gang_is_read, header_made_for_another_place_is_refused, other_header_is_claimed, kept_header_is_good, only_the_kept_header_is_good, endless_gang_is_refused, deepest_gang_is_claimed, gang_below_the_deepest_is_refused, written_gang_is_claimed, bad_headers_are_refused, errors_of_a_claimed_tree_join, refused_headers_have_their_sums, places_of_a_claimed_gang_stand_apart, refused_claim_takes_nothing, freed_claim_uses_no_place, top_has_the_sectors_of_its_smallest_leaf, claim_has_the_devices_error, claim_reads_in_the_retry, claim_mends_nothing, read_of_a_claimed_gang_mends_it}
use Rattle.zio_worked.proofs.claims.claims_bind_what_is_there.Goals as goal

pub returns : goal.returns
returns c = record {
  claimed_block_is_read = claimed_block_is_read;
  wrong_sum_is_found_by_the_read = wrong_sum_is_found_by_the_read;
  places_that_meet_are_refused = places_that_meet_are_refused;
  used_place_is_refused = used_place_is_refused;
  place_outside_its_top_is_invalid = place_outside_its_top_is_invalid;
  zeros_are_no_pointer = zeros_are_no_pointer;
  bound_name_is_not_claimed_again = bound_name_is_not_claimed_again;
  plain_claim_reads_nothing = plain_claim_reads_nothing;
  claimed_gang_is_read = claimed_gang_is_read;
  header_made_for_another_place_is_refused = header_made_for_another_place_is_refused;
  other_header_is_claimed = other_header_is_claimed;
  kept_header_is_good = kept_header_is_good;
  only_the_kept_header_is_good = only_the_kept_header_is_good;
  endless_gang_is_refused = endless_gang_is_refused;
  deepest_gang_is_claimed = deepest_gang_is_claimed;
  gang_below_the_deepest_is_refused = gang_below_the_deepest_is_refused;
  written_gang_is_claimed = written_gang_is_claimed;
  bad_headers_are_refused = bad_headers_are_refused;
  errors_of_a_claimed_tree_join = errors_of_a_claimed_tree_join;
  refused_headers_have_their_sums = refused_headers_have_their_sums;
  places_of_a_claimed_gang_stand_apart = places_of_a_claimed_gang_stand_apart;
  refused_claim_takes_nothing = refused_claim_takes_nothing;
  freed_claim_uses_no_place = freed_claim_uses_no_place;
  top_has_the_sectors_of_its_smallest_leaf = top_has_the_sectors_of_its_smallest_leaf;
  claim_has_the_devices_error = claim_has_the_devices_error;
  claim_reads_in_the_retry = claim_reads_in_the_retry;
  claim_mends_nothing = claim_mends_nothing;
  read_of_a_claimed_gang_mends_it = read_of_a_claimed_gang_mends_it;
}
