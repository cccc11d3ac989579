use Rattle.std.proofs.Common.{rules}
use Rattle.std.proofs.lemmas.List.{take_rest}
use Rattle.zio_script.proofs.WordLemmas.{first_line, only_line}
use Rattle.zio_told.proofs.lines.next_line.Goals as goal

pub returns-in-Some-clause-line : goal.returns-in-Some-clause-line
returns-in-Some-clause-line c =
    let found = first_line c.args.text.now c.in-Some.end (search rules) (search rules) (search rules) in
    rw (found, take_rest)

pub returns-in-None-clause-line : goal.returns-in-None-clause-line
returns-in-None-clause-line c = only_line c.args.text.now (search rules) (search rules)
