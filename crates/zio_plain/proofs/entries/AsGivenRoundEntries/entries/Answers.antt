use Rattle.zio_plain.proofs.PlainTold.{given_fit}
use Rattle.zio_plain.proofs.entries.AsGivenRoundEntries.entries.Goals as goal

pub returns-clause-entries : goal.returns-clause-entries
returns-clause-entries g c = λ sizes used begun lawful. given_fit sizes used c.args.given c.requires.distinct (g.met.C.LawfulChooser.are_lawful sizes used c.args.given lawful)
