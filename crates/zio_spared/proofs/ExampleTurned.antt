-- The example with a row that turns bytes, evaluated.
use Rattle.std.proofs.Common.{◌≡◌, true, refl}
use Rattle.zio_cksum.specs.Sums.{fletcher4, fletcher_after}
use Rattle.zio_trace.specs.CopyPrograms.{block_reading}
use Rattle.zio_trace.specs.Leaves.{on_leaf}
use Rattle.zio_trace.specs.Programs.{deeds_of}
use Rattle.zio_trace.specs.Tasks.{good_by}
use Rattle.zio_spared.specs.Spared.{IsGoodIn}
use Rattle.zio_spared.specs.SparedExamples.{copy_on, piece_of_x, reads_turned, second_is_bad, turned_mirror}

pub first_good : IsGoodIn second_is_bad piece_of_x (copy_on 0)
unfolding fletcher4 fletcher_after
first_good = refl

pub second_bad : IsGoodIn second_is_bad piece_of_x (copy_on 1) → ⊥
unfolding fletcher4 fletcher_after
second_bad h = cc

pub turned_case : deeds_of (on_leaf turned_mirror) (block_reading turned_mirror true (good_by piece_of_x.test) piece_of_x.len piece_of_x.places) second_is_bad ≡ reads_turned
unfolding fletcher4 fletcher_after
turned_case = refl
