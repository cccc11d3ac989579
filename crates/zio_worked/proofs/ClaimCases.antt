use Rattle.std.proofs.Common.{refl}
use Rattle.zio_worked.proofs.Evaluation.{evaluation}
use Rattle.zio_worked.specs.Claims.{ClaimedBlockIsRead, WrongSumIsFoundByTheRead, PlacesThatMeetAreRefused, UsedPlaceIsRefused, PlaceOutsideItsTopIsInvalid, ZerosAreNoPointer, BoundNameIsNotClaimedAgain, PlainClaimReadsNothing, ClaimedGangIsRead, HeaderMadeForAnotherPlaceIsRefused, OtherHeaderIsClaimed, KeptHeaderIsGood, OnlyTheKeptHeaderIsGood, EndlessGangIsRefused, DeepestGangIsClaimed, GangBelowTheDeepestIsRefused, WrittenGangIsClaimed, BadHeadersAreRefused, ErrorsOfAClaimedTreeJoin, RefusedHeadersHaveTheirSums, PlacesOfAClaimedGangStandApart, RefusedClaimTakesNothing, FreedClaimUsesNoPlace, TopHasTheSectorsOfItsSmallestLeaf, ClaimHasTheDevicesError, ClaimReadsInTheRetry, ClaimMendsNothing, ReadOfAClaimedGangMendsIt}

pub claimed_block_is_read : ClaimedBlockIsRead
unfolding evaluation
claimed_block_is_read = refl

pub wrong_sum_is_found_by_the_read : WrongSumIsFoundByTheRead
unfolding evaluation
wrong_sum_is_found_by_the_read = refl

pub places_that_meet_are_refused : PlacesThatMeetAreRefused
unfolding evaluation
places_that_meet_are_refused = refl

pub used_place_is_refused : UsedPlaceIsRefused
unfolding evaluation
used_place_is_refused = refl

pub place_outside_its_top_is_invalid : PlaceOutsideItsTopIsInvalid
unfolding evaluation
place_outside_its_top_is_invalid = refl

pub zeros_are_no_pointer : ZerosAreNoPointer
unfolding evaluation
zeros_are_no_pointer = refl

pub bound_name_is_not_claimed_again : BoundNameIsNotClaimedAgain
unfolding evaluation
bound_name_is_not_claimed_again = refl

pub plain_claim_reads_nothing : PlainClaimReadsNothing
unfolding evaluation
plain_claim_reads_nothing = refl

pub claimed_gang_is_read : ClaimedGangIsRead
unfolding evaluation
claimed_gang_is_read = refl

pub header_made_for_another_place_is_refused : HeaderMadeForAnotherPlaceIsRefused
unfolding evaluation
header_made_for_another_place_is_refused = refl

pub other_header_is_claimed : OtherHeaderIsClaimed
unfolding evaluation
other_header_is_claimed = refl

pub kept_header_is_good : KeptHeaderIsGood
unfolding evaluation
kept_header_is_good = refl

pub only_the_kept_header_is_good : OnlyTheKeptHeaderIsGood
unfolding evaluation
only_the_kept_header_is_good = refl

pub endless_gang_is_refused : EndlessGangIsRefused
unfolding evaluation
endless_gang_is_refused = refl

pub deepest_gang_is_claimed : DeepestGangIsClaimed
unfolding evaluation
deepest_gang_is_claimed = refl

pub gang_below_the_deepest_is_refused : GangBelowTheDeepestIsRefused
unfolding evaluation
gang_below_the_deepest_is_refused = refl

pub written_gang_is_claimed : WrittenGangIsClaimed
unfolding evaluation
written_gang_is_claimed = refl

pub bad_headers_are_refused : BadHeadersAreRefused
unfolding evaluation
bad_headers_are_refused = refl

pub errors_of_a_claimed_tree_join : ErrorsOfAClaimedTreeJoin
unfolding evaluation
errors_of_a_claimed_tree_join = refl

pub refused_headers_have_their_sums : RefusedHeadersHaveTheirSums
unfolding evaluation
refused_headers_have_their_sums = refl

pub places_of_a_claimed_gang_stand_apart : PlacesOfAClaimedGangStandApart
unfolding evaluation
places_of_a_claimed_gang_stand_apart = refl

pub refused_claim_takes_nothing : RefusedClaimTakesNothing
unfolding evaluation
refused_claim_takes_nothing = refl

pub freed_claim_uses_no_place : FreedClaimUsesNoPlace
unfolding evaluation
freed_claim_uses_no_place = refl

pub top_has_the_sectors_of_its_smallest_leaf : TopHasTheSectorsOfItsSmallestLeaf
unfolding evaluation
top_has_the_sectors_of_its_smallest_leaf = refl

pub claim_has_the_devices_error : ClaimHasTheDevicesError
unfolding evaluation
claim_has_the_devices_error = refl

pub claim_reads_in_the_retry : ClaimReadsInTheRetry
unfolding evaluation
claim_reads_in_the_retry = refl

pub claim_mends_nothing : ClaimMendsNothing
unfolding evaluation
claim_mends_nothing = refl

pub read_of_a_claimed_gang_mends_it : ReadOfAClaimedGangMendsIt
unfolding evaluation
read_of_a_claimed_gang_mends_it = refl
