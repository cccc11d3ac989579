use Rattle.zio_spelled.specs.Rounds.{lines_of_rounds}
use Rattle.zio_audit.proofs.SpelledRounds.{choices_spelled}
use Rattle.zio_audit.proofs.laws.spelled_entries_are_of_their_rounds.Goals as goal

pub returns : goal.returns
returns c = λ tops report journals spelled round some. choices_spelled tops (lines_of_rounds report) journals spelled.rounds round some
