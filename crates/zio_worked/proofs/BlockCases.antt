use Rattle.std.proofs.Common.{refl}
use Rattle.zio_worked.proofs.Evaluation.{evaluation}
use Rattle.zio_worked.specs.Blocks.{WriteThenRead, WriteThenReadWithSha256, OneSectorChanges, SequenceBeginsWithTheFirstValue, SequenceOfTenBytes, ContentIsPadded, WholeSectorsArentPadded, ShortBodyIsOneSector, ZerosAreRead, BytesAreShown, UnboundNameIsNotFound, BoundNameIsNotWrittenAgain, FreedNameIsNotFound, FreedNameIsWrittenAgain, LateBatchRunsAfterTheClear, BirthIsTheBatch}

pub write_then_read : WriteThenRead
unfolding evaluation
write_then_read = refl

pub write_then_read_with_sha256 : WriteThenReadWithSha256
unfolding evaluation
write_then_read_with_sha256 = refl

pub one_sector_changes : OneSectorChanges
unfolding evaluation
one_sector_changes = refl

pub sequence_begins_with_the_first_value : SequenceBeginsWithTheFirstValue
unfolding evaluation
sequence_begins_with_the_first_value = refl

pub sequence_of_ten_bytes : SequenceOfTenBytes
unfolding evaluation
sequence_of_ten_bytes = refl

pub content_is_padded : ContentIsPadded
unfolding evaluation
content_is_padded = refl

pub whole_sectors_arent_padded : WholeSectorsArentPadded
unfolding evaluation
whole_sectors_arent_padded = refl

pub short_body_is_one_sector : ShortBodyIsOneSector
unfolding evaluation
short_body_is_one_sector = refl

pub zeros_are_read : ZerosAreRead
unfolding evaluation
zeros_are_read = refl

pub bytes_are_shown : BytesAreShown
unfolding evaluation
bytes_are_shown = refl

pub unbound_name_is_not_found : UnboundNameIsNotFound
unfolding evaluation
unbound_name_is_not_found = refl

pub bound_name_is_not_written_again : BoundNameIsNotWrittenAgain
unfolding evaluation
bound_name_is_not_written_again = refl

pub freed_name_is_not_found : FreedNameIsNotFound
unfolding evaluation
freed_name_is_not_found = refl

pub freed_name_is_written_again : FreedNameIsWrittenAgain
unfolding evaluation
freed_name_is_written_again = refl

pub late_batch_runs_after_the_clear : LateBatchRunsAfterTheClear
unfolding evaluation
late_batch_runs_after_the_clear = refl

pub birth_is_the_batch : BirthIsTheBatch
unfolding evaluation
birth_is_the_batch = refl
