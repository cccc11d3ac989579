use Rattle.std.proofs.Common.{refl}
use Rattle.zio_worked.proofs.Evaluation.{evaluation}
use Rattle.zio_worked.specs.Units.{TailIsZeros, FaultOfTheTailFailsTheWrite, FaultOfTheTailFailsTheRead, FirstBytesAreRead, FlipOfTheTailIsStored, OneSectorStandsInEight, ChoiceOfAUnitIsShown, OneSectorIsClaimedInEight, ThreeSectorsAreClaimedByTheUnit, PlacesFitTheirUnits, EachReaderHasItsLine, ReadersOfOneBlockAgree, FullTopSuspendsTheNextWrite, GangStandsOnTopsOfDifferentUnits, ReadersKeepEarlierRepairs}

pub tail_is_zeros : TailIsZeros
unfolding evaluation
tail_is_zeros = refl

pub fault_of_the_tail_fails_the_write : FaultOfTheTailFailsTheWrite
unfolding evaluation
fault_of_the_tail_fails_the_write = refl

pub fault_of_the_tail_fails_the_read : FaultOfTheTailFailsTheRead
unfolding evaluation
fault_of_the_tail_fails_the_read = refl

pub first_bytes_are_read : FirstBytesAreRead
unfolding evaluation
first_bytes_are_read = refl

pub flip_of_the_tail_is_stored : FlipOfTheTailIsStored
unfolding evaluation
flip_of_the_tail_is_stored = refl

pub one_sector_stands_in_eight : OneSectorStandsInEight
unfolding evaluation
one_sector_stands_in_eight = refl

pub choice_of_a_unit_is_shown : ChoiceOfAUnitIsShown
unfolding evaluation
choice_of_a_unit_is_shown = refl

pub one_sector_is_claimed_in_eight : OneSectorIsClaimedInEight
unfolding evaluation
one_sector_is_claimed_in_eight = refl

pub three_sectors_are_claimed_by_the_unit : ThreeSectorsAreClaimedByTheUnit
unfolding evaluation
three_sectors_are_claimed_by_the_unit = refl

pub places_fit_their_units : PlacesFitTheirUnits
unfolding evaluation
places_fit_their_units = refl

pub each_reader_has_its_line : EachReaderHasItsLine
unfolding evaluation
each_reader_has_its_line = refl

pub readers_of_one_block_agree : ReadersOfOneBlockAgree
unfolding evaluation
readers_of_one_block_agree = refl

pub full_top_suspends_the_next_write : FullTopSuspendsTheNextWrite
unfolding evaluation
full_top_suspends_the_next_write = refl

pub gang_stands_on_tops_of_different_units : GangStandsOnTopsOfDifferentUnits
unfolding evaluation
gang_stands_on_tops_of_different_units = refl

pub readers_keep_earlier_repairs : ReadersKeepEarlierRepairs
unfolding evaluation
readers_keep_earlier_repairs = refl
