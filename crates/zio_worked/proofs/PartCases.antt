use Rattle.std.proofs.Common.{refl}
use Rattle.zio_worked.proofs.Evaluation.{evaluation}
use Rattle.zio_worked.specs.Parts.{EntryAnswersItsOwnAsk, WorstErrorOfAFreeCounts, FailedHeaderKeepsBodiesUnread, SummaryCounts, SummaryShowsNoRound, EachRoundShowsItsOwnJournal, BirthIsTheBatch, HeaderIsForItsFirstPlaceAndBirth, SuspendedTreesGoByNumber, FailedFreeKeepsItsName, WorstErrorOfAPlaceCounts, BitsOfAllChildrenCount, HeldBatchIsLeft, HeadersAreKeptByPath, HeaderThatIsntKeptIsBad, TreesStandByTheirRoots, PathsHavePoints, EachMemberHasItsPath, TopHasWholeUnits, ReadsAnswerByTheKindOfTheirRow, WritesAnswerByTheKindOfTheirRow, FailedRequestKeepsNoBlock, BytesOverAFailedChildDontCount}

pub entry_answers_its_own_ask : EntryAnswersItsOwnAsk
unfolding evaluation
entry_answers_its_own_ask = refl

pub worst_error_of_a_free_counts : WorstErrorOfAFreeCounts
unfolding evaluation
worst_error_of_a_free_counts = refl

pub failed_header_keeps_bodies_unread : FailedHeaderKeepsBodiesUnread
unfolding evaluation
failed_header_keeps_bodies_unread = refl

pub summary_counts : SummaryCounts
unfolding evaluation
summary_counts = refl

pub summary_shows_no_round : SummaryShowsNoRound
unfolding evaluation
summary_shows_no_round = refl

pub each_round_shows_its_own_journal : EachRoundShowsItsOwnJournal
unfolding evaluation
each_round_shows_its_own_journal = refl

pub birth_is_the_batch : BirthIsTheBatch
unfolding evaluation
birth_is_the_batch = refl

pub header_is_for_its_first_place_and_birth : HeaderIsForItsFirstPlaceAndBirth
unfolding evaluation
header_is_for_its_first_place_and_birth = refl

pub suspended_trees_go_by_number : SuspendedTreesGoByNumber
unfolding evaluation
suspended_trees_go_by_number = refl

pub failed_free_keeps_its_name : FailedFreeKeepsItsName
unfolding evaluation
failed_free_keeps_its_name = refl

pub worst_error_of_a_place_counts : WorstErrorOfAPlaceCounts
unfolding evaluation
worst_error_of_a_place_counts = refl

pub bits_of_all_children_count : BitsOfAllChildrenCount
unfolding evaluation
bits_of_all_children_count = refl

pub held_batch_is_left : HeldBatchIsLeft
unfolding evaluation
held_batch_is_left = refl

pub headers_are_kept_by_path : HeadersAreKeptByPath
unfolding evaluation
headers_are_kept_by_path = refl

pub header_that_isnt_kept_is_bad : HeaderThatIsntKeptIsBad
unfolding evaluation
header_that_isnt_kept_is_bad = refl

pub trees_stand_by_their_roots : TreesStandByTheirRoots
unfolding evaluation
trees_stand_by_their_roots = refl

pub paths_have_points : PathsHavePoints
unfolding evaluation
paths_have_points = refl

pub each_member_has_its_path : EachMemberHasItsPath
unfolding evaluation
each_member_has_its_path = refl

pub top_has_whole_units : TopHasWholeUnits
unfolding evaluation
top_has_whole_units = refl

pub reads_answer_by_the_kind_of_their_row : ReadsAnswerByTheKindOfTheirRow
unfolding evaluation
reads_answer_by_the_kind_of_their_row = refl

pub writes_answer_by_the_kind_of_their_row : WritesAnswerByTheKindOfTheirRow
unfolding evaluation
writes_answer_by_the_kind_of_their_row = refl

pub failed_request_keeps_no_block : FailedRequestKeepsNoBlock
unfolding evaluation
failed_request_keeps_no_block = refl

pub bytes_over_a_failed_child_dont_count : BytesOverAFailedChildDontCount
unfolding evaluation
bytes_over_a_failed_child_dont_count = refl
