use Rattle.zio_spared.proofs.RoundSpares.{has_spared, keeps_copy}
use Rattle.zio_spared.proofs.laws.good_copies_are_spared.Goals as goal

pub returns-clause-now : goal.returns-clause-now
returns-clause-now c = λ t sizes f before s piece round have flips under named good. has_spared t sizes f before piece round have flips named good s under

pub returns-clause-throughout : goal.returns-clause-throughout
returns-clause-throughout c = keeps_copy
