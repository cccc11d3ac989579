use Rattle.std.proofs.Common.{length, refl}
use Rattle.std.proofs.lemmas.Bool.{lt-leb}
use Rattle.hex.specs.Hex.{decode_pairs}
use Rattle.zio_script.specs.declared.read.TheConstants.{SCRIPT_LEN_MAX}
use Rattle.zio_script.specs.Grammar.{read_lines}
use Rattle.zio_worked.specs.ScriptTexts.{TopAloneIsAScript, WholeScriptIsRead, TopsHaveUnits, RootsHaveTheirFlags, ChildrenHaveTheirFlags, BodiesAreRead, BlanksPartWords, EdgesAreAccepted, ReadsMayShareABlock, OthersAreAccepted, WordsHaveToFit, OtherLinesHaveToFit, NumbersAreDecimal, DigitsComeInPairs, SectorMayBeALeaf, LinesMayHaveTwoShapes, NumbersHaveRanges, FaultsHaveRanges, TopsAreCounted, FaultsAreCounted, ClearsAreCounted, RequestsAreCounted, PointersTakeRoom, SizesArePadded, BatchHasALimit, LongTextsAreRefused, LinesHaveAnOrder, NumbersRise, BatchesAreEnded, NamesHaveTheirCharacters, NamesStandOnce, RowsMayTellReadsApart, FlagsFollowParents, OnlyAParentIsWrong, ParentsStandBefore, ClaimsStandAlone, DepthHasALimit, ChildrenAreCounted, TopsAreWanted, LeavesStandOnce, SkippedLinesAreCounted, FirstLineCounts, LeastWhyCounts}

pub top_alone_is_a_script : TopAloneIsAScript
unfolding read_lines decode_pairs
top_alone_is_a_script = refl

pub whole_script_is_read : WholeScriptIsRead
unfolding read_lines decode_pairs
whole_script_is_read = refl

pub tops_have_units : TopsHaveUnits
unfolding read_lines decode_pairs
tops_have_units = refl

pub roots_have_their_flags : RootsHaveTheirFlags
unfolding read_lines decode_pairs
roots_have_their_flags = refl

pub children_have_their_flags : ChildrenHaveTheirFlags
unfolding read_lines decode_pairs
children_have_their_flags = refl

pub bodies_are_read : BodiesAreRead
unfolding read_lines decode_pairs
bodies_are_read = refl

pub blanks_part_words : BlanksPartWords
unfolding read_lines decode_pairs
blanks_part_words = refl

pub edges_are_accepted : EdgesAreAccepted
unfolding read_lines decode_pairs
edges_are_accepted = refl

pub reads_may_share_a_block : ReadsMayShareABlock
unfolding read_lines decode_pairs
reads_may_share_a_block = refl

pub others_are_accepted : OthersAreAccepted
unfolding read_lines decode_pairs
others_are_accepted = refl

pub words_have_to_fit : WordsHaveToFit
unfolding read_lines decode_pairs
words_have_to_fit = refl

pub other_lines_have_to_fit : OtherLinesHaveToFit
unfolding read_lines decode_pairs
other_lines_have_to_fit = refl

pub numbers_are_decimal : NumbersAreDecimal
unfolding read_lines decode_pairs
numbers_are_decimal = refl

pub digits_come_in_pairs : DigitsComeInPairs
unfolding read_lines decode_pairs
digits_come_in_pairs = refl

pub sector_may_be_a_leaf : SectorMayBeALeaf
unfolding read_lines decode_pairs
sector_may_be_a_leaf = refl

pub lines_may_have_two_shapes : LinesMayHaveTwoShapes
unfolding read_lines decode_pairs
lines_may_have_two_shapes = refl

pub numbers_have_ranges : NumbersHaveRanges
unfolding read_lines decode_pairs
numbers_have_ranges = refl

pub faults_have_ranges : FaultsHaveRanges
unfolding read_lines decode_pairs
faults_have_ranges = refl

pub tops_are_counted : TopsAreCounted
unfolding read_lines decode_pairs
tops_are_counted = refl

pub faults_are_counted : FaultsAreCounted
unfolding read_lines decode_pairs
faults_are_counted = refl

pub clears_are_counted : ClearsAreCounted
unfolding read_lines decode_pairs
clears_are_counted = refl

pub requests_are_counted : RequestsAreCounted
unfolding read_lines decode_pairs
requests_are_counted = refl

pub pointers_take_room : PointersTakeRoom
unfolding read_lines decode_pairs
pointers_take_room = refl

pub sizes_are_padded : SizesArePadded
unfolding read_lines decode_pairs
sizes_are_padded = refl

pub batch_has_a_limit : BatchHasALimit
unfolding read_lines decode_pairs
batch_has_a_limit = refl

pub long_texts_are_refused : LongTextsAreRefused
long_texts_are_refused text long = rw (lt-leb (length text) SCRIPT_LEN_MAX long) refl

pub lines_have_an_order : LinesHaveAnOrder
unfolding read_lines decode_pairs
lines_have_an_order = refl

pub numbers_rise : NumbersRise
unfolding read_lines decode_pairs
numbers_rise = refl

pub batches_are_ended : BatchesAreEnded
unfolding read_lines decode_pairs
batches_are_ended = refl

pub names_have_their_characters : NamesHaveTheirCharacters
unfolding read_lines decode_pairs
names_have_their_characters = refl

pub names_stand_once : NamesStandOnce
unfolding read_lines decode_pairs
names_stand_once = refl

pub rows_may_tell_reads_apart : RowsMayTellReadsApart
unfolding read_lines decode_pairs
rows_may_tell_reads_apart = refl

pub flags_follow_parents : FlagsFollowParents
unfolding read_lines decode_pairs
flags_follow_parents = refl

pub only_a_parent_is_wrong : OnlyAParentIsWrong
unfolding read_lines decode_pairs
only_a_parent_is_wrong = refl

pub parents_stand_before : ParentsStandBefore
unfolding read_lines decode_pairs
parents_stand_before = refl

pub claims_stand_alone : ClaimsStandAlone
unfolding read_lines decode_pairs
claims_stand_alone = refl

pub depth_has_a_limit : DepthHasALimit
unfolding read_lines decode_pairs
depth_has_a_limit = refl

pub children_are_counted : ChildrenAreCounted
unfolding read_lines decode_pairs
children_are_counted = refl

pub tops_are_wanted : TopsAreWanted
unfolding read_lines decode_pairs
tops_are_wanted = refl

pub leaves_stand_once : LeavesStandOnce
unfolding read_lines decode_pairs
leaves_stand_once = refl

pub skipped_lines_are_counted : SkippedLinesAreCounted
unfolding read_lines decode_pairs
skipped_lines_are_counted = refl

pub first_line_counts : FirstLineCounts
unfolding read_lines decode_pairs
first_line_counts = refl

pub least_why_counts : LeastWhyCounts
unfolding read_lines decode_pairs
least_why_counts = refl
