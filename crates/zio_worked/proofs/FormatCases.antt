use Rattle.std.proofs.Common.{refl}
use Rattle.zio_worked.proofs.Evaluation.{evaluation}
use Rattle.zio_worked.specs.Formats.{PointerOfOnePlace, PointerInHexadecimal, LargestPointerIsSpelled, LargestPointerIsRead, PointerOfFletcher4IsRead, PointerOfThreeRunsIsRead, FixedFieldsAreFixed, SizesHaveToFit, PlacesAreRoundedUp, OtherRoundingsAreRefused, PlacesHaveToFit, WordsWithoutAChecksumMayBeAny, LengthHasToFit, Fletcher4OfOnes, Fletcher4OfShortBytes, Fletcher4Wraps, Sha256OfAbc, Sha256OfTwoBlocks, Sha256OfNothing, OffChecksNothing, BytesFitTheirSum, OtherWordsDontFit, SplitInAtMostThree, HeaderSumHasPlaceAndBirth, HeaderSumIsSha256, HeaderHasItsMagic}

pub pointer_of_one_place : PointerOfOnePlace
unfolding evaluation
pointer_of_one_place = refl

pub pointer_in_hexadecimal : PointerInHexadecimal
unfolding evaluation
pointer_in_hexadecimal = refl

pub largest_pointer_is_spelled : LargestPointerIsSpelled
unfolding evaluation
largest_pointer_is_spelled = refl

pub largest_pointer_is_read : LargestPointerIsRead
unfolding evaluation
largest_pointer_is_read = refl

pub pointer_of_fletcher4_is_read : PointerOfFletcher4IsRead
unfolding evaluation
pointer_of_fletcher4_is_read = refl

pub pointer_of_three_runs_is_read : PointerOfThreeRunsIsRead
unfolding evaluation
pointer_of_three_runs_is_read = refl

pub fixed_fields_are_fixed : FixedFieldsAreFixed
unfolding evaluation
fixed_fields_are_fixed = refl

pub sizes_have_to_fit : SizesHaveToFit
unfolding evaluation
sizes_have_to_fit = refl

pub places_are_rounded_up : PlacesAreRoundedUp
unfolding evaluation
places_are_rounded_up = refl

pub other_roundings_are_refused : OtherRoundingsAreRefused
unfolding evaluation
other_roundings_are_refused = refl

pub places_have_to_fit : PlacesHaveToFit
unfolding evaluation
places_have_to_fit = refl

pub words_without_a_checksum_may_be_any : WordsWithoutAChecksumMayBeAny
unfolding evaluation
words_without_a_checksum_may_be_any = refl

pub length_has_to_fit : LengthHasToFit
unfolding evaluation
length_has_to_fit = refl

pub fletcher4_of_ones : Fletcher4OfOnes
unfolding evaluation
fletcher4_of_ones = refl

pub fletcher4_of_short_bytes : Fletcher4OfShortBytes
unfolding evaluation
fletcher4_of_short_bytes = refl

pub fletcher4_wraps : Fletcher4Wraps
unfolding evaluation
fletcher4_wraps = refl

pub sha256_of_abc : Sha256OfAbc
unfolding evaluation
sha256_of_abc = refl

pub sha256_of_two_blocks : Sha256OfTwoBlocks
unfolding evaluation
sha256_of_two_blocks = refl

pub sha256_of_nothing : Sha256OfNothing
unfolding evaluation
sha256_of_nothing = refl

pub off_checks_nothing : OffChecksNothing
unfolding evaluation
off_checks_nothing = refl

pub bytes_fit_their_sum : BytesFitTheirSum
unfolding evaluation
bytes_fit_their_sum = refl

pub other_words_dont_fit : OtherWordsDontFit
unfolding evaluation
other_words_dont_fit = refl

pub split_in_at_most_three : SplitInAtMostThree
unfolding evaluation
split_in_at_most_three = refl

pub header_sum_has_place_and_birth : HeaderSumHasPlaceAndBirth
unfolding evaluation
header_sum_has_place_and_birth = refl

pub header_sum_is_sha256 : HeaderSumIsSha256
unfolding evaluation
header_sum_is_sha256 = refl

pub header_has_its_magic : HeaderHasItsMagic
unfolding evaluation
header_has_its_magic = refl
