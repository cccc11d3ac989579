use Rattle.zio_spelled.proofs.PrintLemmas.{printed_round, report_spells_one, spells_one}
use Rattle.zio_spelled.proofs.ShapeLemmas.{shape_spells}
use Rattle.zio_spelled.proofs.laws.printed_journals_are_spelled.Goals as goal

pub returns-clause-printed : goal.returns-clause-printed
returns-clause-printed c = printed_round

pub returns-clause-one : goal.returns-clause-one
returns-clause-one c = spells_one

pub returns-clause-report : goal.returns-clause-report
returns-clause-report c = report_spells_one

pub returns-clause-shapes : goal.returns-clause-shapes
returns-clause-shapes c = shape_spells
