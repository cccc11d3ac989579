use Rattle.zio_spelled.specs.Rounds.{rounds_left}
use Rattle.zio_audit.proofs.JournalReads.{all_are, kept_of}
use Rattle.zio_audit.proofs.journals.Journals.of.Goals as goal

pub invariant_of-result : goal.invariant_of-result
invariant_of-result c =
    kept_of c.args.tops.now c.args.report.now (rounds_left c.in-Some.rounds) c.requires.lawful c.requires.short c.in-Some.ensures.1 c.requires.spelled

pub returns : goal.returns
returns c = λ journals spelled. all_are c.args.tops.now c.args.report.now (rounds_left c.in-Some.rounds) c.in-Some.ensures.1 journals spelled
