use Rattle.zio_script.specs.Whys.{tells_reads_apart}
use Rattle.zio_script.proofs.AcceptedLemmas.{reading_orderly}
use Rattle.zio_gang.proofs.FateRuns.{fates_law}
use Rattle.zio_gang.proofs.laws.each_request_has_one_fate.Goals as goal

pub returns : goal.returns
returns c = λ text script images journal kind accepted_is.
    fates_law kind script images journal (tells_reads_apart script) (reading_orderly text script accepted_is)
